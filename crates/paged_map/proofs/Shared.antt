-- Edits of shared values, as edits of what they are.
use Rattle.std.proofs.Common.{◌≡◌, ℕ, suc, List, [], ◌∷◌, ◌++◌, map, take, drop, insert, remove, slice_set, refl, sym, ap, ◌∙◌, Global}
use Rattle.std.specs.List.{AllZip, AppendsClones}
use Rattle.std.specs.declared.sync.Arc.{Arc}
use Rattle.std.specs.Arc.{arc_value}
use Rattle.std.proofs.lemmas.List.{take-map, drop-map, map-append, map-set}
use Rattle.paged_map.specs.Pages.{values_in}

module _ {X Y : Type 0} (f : X → Y) where
  pub map_insert : (xs : List X) (i : ℕ) (x : X) → map f (insert xs i x) ≡ insert (map f xs) i (f x)
  map_insert xs i x = map-append f (take i xs) (x ∷ drop i xs) ∙ ap (λ l. l ++ (f x ∷ map f (drop i xs))) (sym (take-map f i xs)) ∙ ap (λ l. take i (map f xs) ++ (f x ∷ l)) (sym (drop-map f i xs))

  pub map_remove : (xs : List X) (i : ℕ) → map f (remove xs i) ≡ remove (map f xs) i
  map_remove xs i = map-append f (take i xs) (drop (suc i) xs) ∙ ap (λ l. l ++ map f (drop (suc i) xs)) (sym (take-map f i xs)) ∙ ap (λ l. take i (map f xs) ++ l) (sym (drop-map f (suc i) xs))

module _ {X Z : Type 0} where
  abbrev pub Cloned : Arc X Z → Arc X Z → Type 0
  Cloned c d = arc_value d ≡ arc_value c

  -- clones are of the same values
  pub cloned_values : (xs ys : List (Arc X Z)) → AllZip Cloned xs ys → values_in ys ≡ values_in xs
  cloned_values [] [] z = refl
  cloned_values [] (y ∷ ys) z = absurd z
  cloned_values (x ∷ xs) [] z = absurd z
  cloned_values (x ∷ xs) (y ∷ ys) z = ap (λ v. v ∷ values_in ys) z.0 ∙ ap (λ l. arc_value x ∷ l) (cloned_values xs ys z.1)

  pub appended_values : (old new more : List (Arc X Z)) → AppendsClones Cloned old new more → values_in new ≡ values_in old ++ values_in more
  appended_values old new more a = ap values_in a.1 ∙ map-append arc_value old a.0 ∙ ap (λ l. values_in old ++ l) (cloned_values more a.0 a.2)
