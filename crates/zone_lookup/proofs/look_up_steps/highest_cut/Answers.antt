use Rattle.std.proofs.Common.{◌≡◌, sym, ap, subst, ◌∙◌, None, Some, true}
use Rattle.std.specs.Option.{option_or}
use Rattle.std.specs.Prelude.{IfSome}
use Rattle.zone_model.specs.Version.{is_cut}
use Rattle.zone_model.specs.Answer.{highest_cut}
use Rattle.zone_lookup.proofs.Highest.{at_first, step_cut, step_on}
use Rattle.zone_lookup.proofs.look_up_steps.highest_cut.Goals.{then-is_cut, else-is_cut}
use Rattle.zone_lookup.proofs.look_up_steps.highest_cut.Goals as goal

pub loop-highest-init : goal.loop-highest-init
loop-highest-init c = (at_first c.args.version.now c.args.name.now ∙ ap (λ x. option_or (highest_cut c.args.version.now x) None) (sym c.borrowed-rest.ensures.value), tt)

-- What was found is the lower one.
pub loop-highest-preserved : goal.loop-highest-preserved
loop-highest-preserved c = elim c.if-is_cut.branch [
  | then-is_cut w ↦ (
    c.loop-highest.invariant.0 ∙ step_cut c.args.version.now c.loop-highest.rest c.in-Some.parent c.in-Some.field-0-0 c.loop-highest.highest c.in-Some.ensures (sym w.if-is_cut.ensures)
        ∙ ap (λ x. option_or (highest_cut c.args.version.now c.in-Some.parent) (Some x)) (sym w.in_place.ensures.value)
        ∙ ap (option_or (highest_cut c.args.version.now c.in-Some.parent)) (sym w.highest-is),
    subst (λ o. IfSome o (λ n. is_cut c.args.version.now n ≡ true)) (sym w.highest-is) (ap (is_cut c.args.version.now) w.in_place.ensures.value ∙ sym w.if-is_cut.ensures),
  )
  | else-is_cut w ↦ (
    c.loop-highest.invariant.0 ∙ step_on c.args.version.now c.loop-highest.rest c.in-Some.parent c.in-Some.field-0-0 c.loop-highest.highest c.in-Some.ensures (sym w.if-is_cut.ensures)
        ∙ ap (option_or (highest_cut c.args.version.now c.in-Some.parent)) (sym w.highest-is),
    subst (λ o. IfSome o (λ n. is_cut c.args.version.now n ≡ true)) (sym w.highest-is) c.loop-highest.invariant.1,
  )
]
