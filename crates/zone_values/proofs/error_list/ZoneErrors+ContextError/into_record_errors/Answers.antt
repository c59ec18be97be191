use Rattle.std.proofs.Common.{◌≡◌, ◌++◌, ◌∷◌, [], List, length, ap, sym, refl, ◌∙◌, arith, append-nil, append_assoc}
use Rattle.std.specs.Vec.Iter.{into_iter_items}
use Rattle.dns_name.specs.Names.{Name}
use Rattle.zone_values.specs.declared.record_errors.ContextError.{ContextError}
use Rattle.zone_values.specs.declared.record_errors.RecordError.{RecordError}
use Rattle.zone_values.specs.declared.record_errors.RecordError.TheVariants.{InvalidRecord}
use Rattle.zone_values.specs.Invalid.{invalid_records}
use Rattle.zone_values.proofs.error_list.ZoneErrors+ContextError.into_record_errors.Goals as goal

nothing_left : {X : Type 0} (l : List X) → length l ≡ 0 → l ≡ []
nothing_left [] h = refl
nothing_left (x ∷ xs) h = absurd (omega arith)

-- One more.
pub loop-name-preserved : goal.loop-name-preserved
loop-name-preserved c =
    let at = c.loop-name in
    let rest = into_iter_items c.next.new.self in
    let steps : into_iter_items at.name-iterator ≡ (c.in-Some.name, c.in-Some.error) ∷ rest = c.in-Some.ensures.steps.0 in (
      ap (λ (l : List (Name × RecordError)). l ++ invalid_records rest) c.in_ok-push.ensures.added
          ∙ append_assoc at.errors ((c.in-Some.name, InvalidRecord c.in-Some.error) ∷ []) (invalid_records rest)
          ∙ ap (λ (l : List (Name × ContextError)). at.errors ++ invalid_records l) (sym steps) ∙ at.invariant.0,
      let was = at.invariant.1 in
          let gone = c.in-Some.ensures.steps.1 in
          let short = ap length steps in
          omega arith,
    )

-- None is left.
pub returns : goal.returns
returns c =
    let at = c.loop-name in
    let empty : into_iter_items at.name-iterator ≡ [] = nothing_left _ (sym at.invariant.1 ∙ c.in-None.ensures.steps.0) in
    sym (append-nil at.errors) ∙ ap (λ (l : List (Name × ContextError)). at.errors ++ invalid_records l) (sym empty) ∙ at.invariant.0
    ∙ ap invalid_records (c.into_iter-name-iterator.ensures.into_iter_gives.0 ∙ c.self.view_is)
