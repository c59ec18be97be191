-- Values that are lent, within shared entries and pages.
use Rattle.std.proofs.Common.{◌≡◌, ℕ, ◌<◌, List, [], ◌∷◌, ◌++◌, get_or, length, slice_set, slice_get, Option, Some, option_map, refl, sym, ap, ◌∙◌, subst, true≢false, Result, Ok, Err, IsOk, IsErr, OnErr}
use mathlib.Core.Option as maybe
use Rattle.std.specs.Borrow.{GName, name_if_ok}
use Rattle.std.specs.declared.sync.Arc.{Arc}
use Rattle.std.specs.Arc.{arc_value}
use Rattle.std.specs.Map.{keys_of}
use Rattle.std.proofs.lemmas.List.{map-set, set-get_or, length-map, get_or-map}
use Rattle.std.proofs.lemmas.Option.{slice_get-map, slice_get_read}
use Rattle.paged_map.specs.declared.spots.Spot.{Spot}
use Rattle.paged_map.specs.Pages.{values_in, page_at, key_there, before, beyond, joined, AreFit, IsFit}
use Rattle.paged_map.specs.Lends.{with_value}
use Rattle.paged_map.proofs.Places.{fit_at}
use Rattle.paged_map.proofs.PageEdits.{replace_joined, fit_set, fit_replace}

module _ {X Z : Type 0} (xs : List (Arc X Z)) (at : ℕ) (e made : Arc X Z) (read : e ≡ get_or xs at e) where
  -- what stands at a place that is as before
  pub value_kept : at < length xs → arc_value made ≡ arc_value e → values_in (slice_set xs at made) ≡ values_in xs
  value_kept h is =
      map-set arc_value xs at made ∙ ap (λ x. slice_set (values_in xs) at x) (is ∙ sym (get_or-map arc_value xs at e (arc_value e) h ∙ ap arc_value (sym read)))
      ∙ set-get_or (values_in xs) at (arc_value e)

module _ {X Z : Type 0} (xs : List (Arc (List ℕ × X) Z)) (at : ℕ) (e made : Arc (List ℕ × X) Z) (read : e ≡ get_or xs at e) (h : at < length xs) where
  key_of : (arc_value e).0 ≡ get_or (keys_of (values_in xs)) at []
  key_of =
      sym (get_or-map (λ (e : List ℕ × X). e.0) (values_in xs) at (arc_value e) [] (subst (λ n. at < n) (sym (length-map xs arc_value)) h)
      ∙ ap (λ (e : List ℕ × X). e.0) (get_or-map arc_value xs at e (arc_value e) h ∙ ap arc_value (sym read)))

  pub value_written : (w : X) → arc_value made ≡ ((arc_value e).0, w) → values_in (slice_set xs at made) ≡ with_value (values_in xs) at w
  value_written w is = map-set arc_value xs at made ∙ ap (λ x. slice_set (values_in xs) at x) (is ∙ ap (λ (k : List ℕ). (k, w)) key_of)

  pub value_got : option_map (λ (e : List ℕ × X). e.1) (slice_get (values_in xs) at) ≡ Some (arc_value e).1
  value_got = ap (option_map (λ (e : List ℕ × X). e.1)) (slice_get-map arc_value xs at ∙ ap (option_map arc_value) (slice_get_read xs (length xs) at e refl h read))

-- a value that is lent out of a page among pages
module _ {X Z : Type 0} (items : List (Arc (List (List ℕ × X)) Z)) (s : Spot) (page made : Arc (List (List ℕ × X)) Z) (w : X) (h : s.page < length (values_in items)) (i : s.at < length (page_at (values_in items) s.page)) (read : page_at (values_in items) s.page ≡ arc_value page) (is : arc_value made ≡ with_value (arc_value page) s.at w) where
  made_there : arc_value made ≡ with_value (page_at (values_in items) s.page) s.at w
  made_there = is ∙ ap (λ l. with_value l s.at w) (sym read)

  pub lent_joined : joined (values_in (slice_set items s.page made)) ≡ before (values_in items) s ++ (key_there (values_in items) s, w) ∷ beyond (values_in items) s
  lent_joined =
      ap joined (map-set arc_value items s.page made) ∙ ap (λ l. joined (slice_set (values_in items) s.page l)) made_there
      ∙ replace_joined (values_in items) s (key_there (values_in items) s, w) h i

  pub lent_fit : AreFit (values_in items) → AreFit (values_in (slice_set items s.page made))
  lent_fit f =
      subst AreFit (sym (map-set arc_value items s.page made)) (fit_set (values_in items) s.page (arc_value made) f
      (subst IsFit (sym made_there) (fit_replace (page_at (values_in items) s.page) s.at (key_there (values_in items) s, w) (fit_at (values_in items) s.page f h))))

-- a call that lent nothing
module _ {A E : Type 0} where
  pub no_loan : (r : Result A E) (name : A → GName) → IsErr r → ◌≡◌ {A = maybe.Option GName} maybe.none (name_if_ok name r)
  no_loan (Ok x) name h = absurd (true≢false (sym h))
  no_loan (Err e) name h = refl

  pub not_ok : (r : Result A E) → IsErr r → IsOk r → ⊥
  not_ok (Ok x) h k = absurd (true≢false (sym h))
  not_ok (Err e) h k = absurd (true≢false (sym k))

  pub at_err : {P : Type 0} (r : Result A E) → P → OnErr r P
  at_err (Ok x) p = tt
  at_err (Err e) p = p
