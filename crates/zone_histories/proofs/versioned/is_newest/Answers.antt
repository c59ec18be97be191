use Rattle.std.proofs.Common.{sym, ap, ◌∙◌}
use Rattle.zone_histories.specs.Histories.{before}
use Rattle.zone_histories.proofs.Writes.{but_last, all_before, nothing_last, some_last}
use Rattle.zone_histories.proofs.versioned.is_newest.Goals as goal

pub returns-in-Some-clause-found : goal.returns-in-Some-clause-found
returns-in-Some-clause-found g c h = (
  some_last c.args.writes.now c.in-Some.entry.now (sym c.in-Some.ensures.value),
  but_last c.args.writes.now c.in-Some.entry.now c.args.version c.requires.ordered (sym c.in-Some.ensures.value) (sym c.eq.ensures ∙ h),
)

pub returns-in-Some-clause-none : goal.returns-in-Some-clause-none
returns-in-Some-clause-none g c h =
    all_before c.args.writes.now c.in-Some.entry.now c.args.version c.requires.ordered c.requires.upto (sym c.in-Some.ensures.value) (sym c.eq.ensures ∙ h)

pub returns-in-None-clause-none : goal.returns-in-None-clause-none
returns-in-None-clause-none g c h =
    let e = nothing_last c.args.writes.now (sym c.in-None.ensures.value) in ap (λ l. before l c.args.version) e ∙ sym e
