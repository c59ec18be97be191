use Rattle.std.proofs.Common.{sym, ap, ◌∙◌}
use Rattle.zone_histories.specs.Histories.{is_upto}
use Rattle.zone_histories.proofs.Writes.{le_cmp, tells_upto, nothing_last}
use Rattle.zone_histories.proofs.versioned.is_upto.Goals as goal

pub returns-in-Some : goal.returns-in-Some
returns-in-Some g c =
    c.le.ensures ∙ le_cmp c.in-Some.entry.now.0 c.args.version
    ∙ tells_upto c.args.writes.now c.in-Some.entry.now c.args.version c.requires (sym c.in-Some.ensures.value)

pub returns-in-None : goal.returns-in-None
returns-in-None g c = sym (ap (λ l. is_upto l c.args.version) (nothing_last c.args.writes.now (sym c.in-None.ensures.value)))
