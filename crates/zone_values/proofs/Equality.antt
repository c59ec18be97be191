-- Lists of stored data, by their fields.
use Rattle.std.proofs.Common.{◌≡◌, Bool, true, false, ◌||◌, cond, List, [], ◌∷◌, map, refl, ap}
use Rattle.std.specs.List.{list_any, filter}

pub list_any_map : {X Y : Type 0} (p : Y → Bool) (f : X → Y) (xs : List X) → list_any p (map f xs) ≡ list_any (λ x. p (f x)) xs
list_any_map p f [] = refl
list_any_map p f (x ∷ xs) = ap (λ b. p (f x) || b) (list_any_map p f xs)

pub filter_map : {X Y : Type 0} (p : Y → Bool) (f : X → Y) (xs : List X) → map f (filter (λ x. p (f x)) xs) ≡ filter p (map f xs)
filter_map p f [] = refl
filter_map p f (x ∷ xs) = by (p (f x)) (filter_map p f xs)
  where
    by : (b : Bool) → map f (filter (λ y. p (f y)) xs) ≡ filter p (map f xs) → map f (cond b (x ∷ filter (λ y. p (f y)) xs) (filter (λ y. p (f y)) xs)) ≡ cond b (f x ∷ filter p (map f xs)) (filter p (map f xs))
    by true later = ap (λ l. f x ∷ l) later
    by false later = later
