use Rattle.std.proofs.Common.{◌==◌, length, not, sym, ap, ◌∙◌}
use Rattle.zone_histories.specs.Histories.{before}
use Rattle.zone_histories.proofs.Writes.{tells_before, nothing_first}
use Rattle.zone_histories.proofs.versioned.has_before.Goals as goal

pub returns-in-Some : goal.returns-in-Some
returns-in-Some g c = c.lt.ensures ∙ tells_before c.args.writes.now c.in-Some.entry.now c.args.version c.requires (sym c.in-Some.ensures.value)

pub returns-in-None : goal.returns-in-None
returns-in-None g c = sym (ap (λ l. not (length (before l c.args.version) == 0)) (nothing_first c.args.writes.now (sym c.in-None.ensures.value)))
