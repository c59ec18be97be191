-- What is found among kept differences by a serial, and what of them goes.
use Rattle.std.proofs.Common.{◌≡◌, ℕ, suc, ◌-◌, ◌≤◌, Bool, true, false, ◌||◌, ◌==◌, if◌then◌else◌, List, [], ◌∷◌, ◌++◌, length, map, drop, refl, sym, ap, ◌∙◌, subst, arith}
use Rattle.std.proofs.lemmas.List.{length-map, map-append, drop-append-le, drop-map}
use Rattle.std.specs.List.{AllZip}
use Rattle.zone_model.specs.Difference.{Difference}
use Rattle.zone_model.specs.Offer.{from_serial, after_serial, has_start}

-- either no difference starts there, or what stands after the one that does
abbrev IsFound : Bool → List Difference → List Difference → Type 0
IsFound has after [] = has ≡ false
IsFound has after (d ∷ more) = (has ≡ true) × (after ≡ more)

found : (n : ℕ) (ds : List Difference) → IsFound (has_start n ds) (after_serial n ds) (from_serial n ds)
found n [] = refl
found n (d ∷ ds) = by (d.start_serial == n) (found n ds)
  where
    by : (b : Bool) → IsFound (has_start n ds) (after_serial n ds) (from_serial n ds) → IsFound (b || has_start n ds) (if b then ds else after_serial n ds) (if b then d ∷ ds else from_serial n ds)
    by true h = (refl, refl)
    by false h = h

-- the last items of a list, which is cut off before them
abbrev IsEnd : List Difference → List Difference → Type 0
IsEnd ds part = (length part ≤ length ds) × (drop (length ds - length part) ds ≡ part)

after_is_end : (n : ℕ) (ds : List Difference) → IsEnd ds (after_serial n ds)
after_is_end n [] = (omega arith, refl)
after_is_end n (d ∷ ds) = by (d.start_serial == n) (after_is_end n ds)
  where
    by : (b : Bool) → IsEnd ds (after_serial n ds) → IsEnd (d ∷ ds) (if b then ds else after_serial n ds)
    by true h =
        let one : length (d ∷ ds) - length ds ≡ 1 = omega arith in
        (omega arith, ap (λ k. drop k (d ∷ ds)) one)
    by false h =
        let le = h.0 in
        let next : length (d ∷ ds) - length (after_serial n ds) ≡ suc (length ds - length (after_serial n ds)) = omega (arith, le) in
        (omega (arith, le), ap (λ k. drop k (d ∷ ds)) next ∙ h.1)

-- ---- of what stands for the differences

module _ {X : Type 0} (f : X → Difference) where
  pub goes_through : (n : ℕ) (xs some : List X) (x : X) (newer : List X) → map f some ≡ from_serial n (map f xs) → some ≡ x ∷ newer
      → (length newer ≤ length xs) × (drop (length xs - length newer) (map f xs) ≡ (if has_start n (map f xs) then after_serial n (map f xs) else map f xs))
  goes_through n xs some x newer e s =
      let ds = map f xs in
      let h = subst (IsFound (has_start n ds) (after_serial n ds)) (sym e ∙ ap (map f) s) (found n ds) in
      let end = subst (IsEnd ds) h.1 (after_is_end n ds) in
      let left = rw (length-map xs f, length-map newer f) at end in
      (left.0, left.1 ∙ sym h.1 ∙ sym (ap (λ b. if b then after_serial n ds else ds) h.0))

  pub none_goes : (n : ℕ) (xs some : List X) → map f some ≡ from_serial n (map f xs) → length some ≡ 0
      → map f xs ≡ (if has_start n (map f xs) then after_serial n (map f xs) else map f xs)
  none_goes n xs [] e none = sym (ap (λ b. if b then after_serial n (map f xs) else map f xs) (subst (IsFound (has_start n (map f xs)) (after_serial n (map f xs))) (sym e) (found n (map f xs))))
  none_goes n xs (x ∷ more) e none = absurd (omega (arith, none))

  pub one_more : (k : ℕ) (xs : List X) (x : X) (some : List Difference) → k ≤ length xs → drop k (map f xs) ≡ some → map f (drop k (xs ++ x ∷ [])) ≡ some ++ f x ∷ []
  one_more k xs x some le e =
      sym (drop-map f k (xs ++ x ∷ [])) ∙ ap (drop k) (map-append f xs (x ∷ [])) ∙ drop-append-le k (map f xs) (f x ∷ []) (subst (λ n. k ≤ n) (sym (length-map xs f)) le) ∙ ap (λ l. l ++ f x ∷ []) e

  pub clones_alike : (xs ys : List X) → AllZip (λ x y. f y ≡ f x) xs ys → map f ys ≡ map f xs
  clones_alike [] [] h = refl
  clones_alike [] (y ∷ ys) h = absurd h
  clones_alike (x ∷ xs) [] h = absurd h
  clones_alike (x ∷ xs) (y ∷ ys) h = λ i. h.0 i ∷ clones_alike xs ys h.1 i
