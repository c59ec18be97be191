use Rattle.std.proofs.Common.{sym, ◌∙◌}
use Rattle.zone_histories.proofs.Writes.{rewritten}
use Rattle.zone_histories.proofs.versioned.write.Goals as goal

-- The newest write is written anew.
pub returns-then-is_newest-clause-ok : goal.returns-then-is_newest-clause-ok
returns-then-is_newest-clause-ok g c =
    let found = c.is_newest.ensures.found c.if-is_newest.true in
    rewritten c.args.writes.now.items c.deref.result.now c.args.version c.args.value c.len-last.result c.deref.ensures.value (c.len-last.ensures ∙ sym c.deref.ensures.len) found.0 found.1
