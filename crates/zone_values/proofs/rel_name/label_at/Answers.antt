use Rattle.std.proofs.Common.{◌≡◌, ap, subst, ◌∙◌, List, ℕ, arith}
use Rattle.std.specs.List.{slice_get}
use Rattle.std.specs.Iterator.{YieldsFirst}
use Rattle.zone_values.proofs.Labels.{next_behind, first_behind}
use Rattle.zone_values.proofs.rel_name.label_at.Goals as goal

pub loop-step-preserved : goal.loop-step-preserved
loop-step-preserved c =
    let P : List (List ℕ) → Type 0 = λ l. YieldsFirst (λ (i : List (List ℕ)). i) l c.next.result c.next.new.self in
    next_behind c.args.labels c.loop-step.step c.next.result c.next.new.self (subst P c.loop-step.invariant c.next.ensures.steps)

pub returns : goal.returns
returns c =
    let P : List (List ℕ) → Type 0 = λ l. YieldsFirst (λ (i : List (List ℕ)). i) l c.next-2.result c.next-2.new.self in
    let last : c.loop-step.step ≡ c.args.at = omega arith in
    first_behind c.args.labels c.loop-step.step c.next-2.result c.next-2.new.self (subst P c.loop-step.invariant c.next-2.ensures.steps) ∙ ap (slice_get c.args.labels) last
