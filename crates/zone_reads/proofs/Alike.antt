-- Data that are equal one by one are the same data.
use Rattle.std.proofs.Common.{◌≡◌, ◌&&◌, ◌||◌, Bool, true, false, List, [], ◌∷◌, map, refl, sym, ap, ◌∙◌, true≢false}
use Rattle.std.specs.List.{list_all, list_any}
use Rattle.std.specs.Cmp.Lexicographic.{pointwise}
use Rattle.dns_name.specs.Records.{Field, same_data}
use Rattle.dns_name.specs.SameData.{same_data_equiv}
use Rattle.zone_model.specs.Version.{same_items}

first_so : (a b : Bool) → (a && b) ≡ true → a ≡ true
first_so true b h = refl
first_so false b h = absurd (true≢false (sym h))

second_so : (a b : Bool) → (a && b) ≡ true → b ≡ true
second_so true b h = h
second_so false b h = absurd (true≢false (sym h))

or_right : (a b : Bool) → b ≡ true → (a || b) ≡ true
or_right true b h = refl
or_right false b h = h

both_true : {a b : Bool} → a ≡ true → b ≡ true → (a && b) ≡ true
both_true p q = λ i. p i && q i

-- whether each of the first has its equal among the others
abbrev among : List (List Field) → List (List Field) → Bool
among xs ys = list_all (λ x. list_any (same_data x) ys) xs

among_more : (xs ys : List (List Field)) (y : List Field) → among xs ys ≡ true → among xs (y ∷ ys) ≡ true
among_more [] ys y h = refl
among_more (x ∷ xs) ys y h =
    both_true (or_right (same_data x y) (list_any (same_data x) ys) (first_so (list_any (same_data x) ys) (among xs ys) h)) (among_more xs ys y (second_so (list_any (same_data x) ys) (among xs ys) h))

one_among : (x : List Field) (ys : List (List Field)) (y : List Field) → same_data x y ≡ true → list_any (same_data x) (y ∷ ys) ≡ true
one_among x ys y h = ap (λ b. b || list_any (same_data x) ys) h

module _ {D : Type 0} (f : D → List Field) where
  abbrev alike : List D → List D → Bool
  alike xs ys = pointwise (λ x y. same_data (f x) (f y)) xs ys

  there : (xs ys : List D) → alike xs ys ≡ true → among (map f xs) (map f ys) ≡ true
  there [] ys h = refl
  there (x ∷ xs) [] h = absurd (true≢false (sym h))
  there (x ∷ xs) (y ∷ ys) h =
      both_true (one_among (f x) (map f ys) (f y) (first_so (same_data (f x) (f y)) (alike xs ys) h))
      (among_more (map f xs) (map f ys) (f y) (there xs ys (second_so (same_data (f x) (f y)) (alike xs ys) h)))

  back : (xs ys : List D) → alike xs ys ≡ true → among (map f ys) (map f xs) ≡ true
  back xs [] h = refl
  back [] (y ∷ ys) h = absurd (true≢false (sym h))
  back (x ∷ xs) (y ∷ ys) h =
      both_true (one_among (f y) (map f xs) (f x) (same_data_equiv.symm (f y) (f x) ∙ first_so (same_data (f x) (f y)) (alike xs ys) h))
      (among_more (map f ys) (map f xs) (f x) (back xs ys (second_so (same_data (f x) (f y)) (alike xs ys) h)))

  pub alike_are_same : (xs ys : List D) → alike xs ys ≡ true → same_items (map f xs) (map f ys) ≡ true
  alike_are_same xs ys h = both_true (there xs ys h) (back xs ys h)
