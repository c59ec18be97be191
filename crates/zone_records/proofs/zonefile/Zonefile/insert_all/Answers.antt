use Rattle.std.proofs.Common.{◌≡◌, ◌∷◌, [], List, length, ap, sym, refl, ◌∙◌, arith}
use Rattle.std.specs.Vec.Iter.{into_iter_items}
use Rattle.zone_records.specs.Refusals.{Reading, read_all}
use Rattle.zone_records.proofs.zonefile.Zonefile.insert_all.Goals as goal

nothing_left : {X : Type 0} (l : List X) → length l ≡ 0 → l ≡ []
nothing_left [] h = refl
nothing_left (x ∷ xs) h = absurd (omega arith)

-- One more record.
pub loop-found-preserved : goal.loop-found-preserved
loop-found-preserved c =
    let at = c.loop-found in
    let rest = into_iter_items c.next.new.self in
    let steps : into_iter_items at.found-iterator ≡ c.in-Some.found ∷ rest = c.in-Some.ensures.steps.0 in (
      ap (λ (s : Reading). read_all s rest) c.in_ok-insert_or_note.ensures ∙ ap (read_all (at.self, at.errors)) (sym steps) ∙ at.invariant.0,
      let was = at.invariant.1 in
          let gone = c.in-Some.ensures.steps.1 in
          let short = ap length steps in
          omega arith,
    )

-- No record is left.
pub returns : goal.returns
returns c =
    let at = c.loop-found in
    let empty : into_iter_items at.found-iterator ≡ [] = nothing_left _ (sym at.invariant.1 ∙ c.in-None.ensures.steps.0) in
    ap (read_all (at.self, at.errors)) (sym empty) ∙ at.invariant.0 ∙ ap (read_all (c.args.self.now, c.args.errors.now)) c.into_iter-found-iterator.ensures.into_iter_gives.0
