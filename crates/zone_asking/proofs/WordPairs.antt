-- Words that stand in pairs, where too few are left for one.
use Rattle.std.proofs.Common.{◌≡◌, ◌<◌, ◌==◌, ℕ, false, List, [], ◌∷◌, length, map, refl, arith, Option, Some, None}
use Rattle.zone_asking.specs.Wishes.{Wish, are_limits, has_limit, limit_named, wish_of}

module _ {A : Type 0} (f : A → List ℕ) where
  pub none_left : (words : List A) → length words < 2 → are_limits (map f words) ≡ (length words == 0)
  none_left [] few = refl
  none_left (w ∷ []) few = refl
  none_left (w ∷ v ∷ more) few = absurd (omega (arith, few))

  pub none_named : (name : List ℕ) (words : List A) → length words < 2 → has_limit name (map f words) ≡ false
  none_named name [] few = refl
  none_named name (w ∷ []) few = refl
  none_named name (w ∷ v ∷ more) few = absurd (omega (arith, few))

  pub usual_named : (name : List ℕ) (bound usual : ℕ) (words : List A) → length words < 2 → limit_named name bound usual (map f words) ≡ Some usual
  usual_named name bound usual [] few = refl
  usual_named name bound usual (w ∷ []) few = refl
  usual_named name bound usual (w ∷ v ∷ more) few = absurd (omega (arith, few))

  pub no_wish : (words : List A) → length words < 2 → ◌≡◌ {A = Option Wish} None (wish_of (map f words))
  no_wish [] few = refl
  no_wish (w ∷ []) few = refl
  no_wish (w ∷ v ∷ more) few = absurd (omega (arith, few))
