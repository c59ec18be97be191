-- Labels from the right.
use Rattle.std.proofs.Common.{◌≡◌, ℕ, zero, suc, ◌+◌, ◌-◌, ◌≤◌, ◌<◌, List, [], ◌∷◌, ◌++◌, length, take, drop, reverse, refl, sym, ap, ◌∙◌, add-one, Option, Some, None, arith}
use Rattle.std.specs.List.{slice_get}
use Rattle.std.specs.Iterator.{YieldsFirst}
use Rattle.std.proofs.lemmas.List.{reverse-append}

missing : {X : Type 0} (xs : List X) (n : ℕ) → slice_get xs n ≡ None → length xs ≤ n
missing [] n h = omega arith
missing (x ∷ xs) zero h = cc
missing (x ∷ xs) (suc n) h = let rest = missing xs n h in omega arith

one_more : {X : Type 0} (xs : List X) (n : ℕ) (x : X) → slice_get xs n ≡ Some x → take (suc n) xs ≡ take n xs ++ x ∷ []
one_more [] n x h = cc
one_more (y ∷ xs) zero x h = ap (λ z. z ∷ []) cc
one_more (y ∷ xs) (suc n) x h = ap (λ l. y ∷ l) (one_more xs n x h)

taken_turned : {X : Type 0} (xs : List X) (n : ℕ) (x : X) → slice_get xs n ≡ Some x → reverse (take (suc n) xs) ≡ x ∷ reverse (take n xs)
taken_turned xs n x h = ap reverse (one_more xs n x h) ∙ reverse-append (take n xs) (x ∷ [])

-- the label at a place is the first of those up to there, from the right
pub yields_label : (name seen : List (List ℕ)) (n m : ℕ) (r : Option (List ℕ)) → n ≡ suc m → n ≤ length name → reverse (take n name) ≡ seen → r ≡ slice_get name m → YieldsFirst (λ (i : List (List ℕ)). i) seen r (reverse (take m name))
yields_label name seen n m None count within shows found = let over = missing name m (sym found) in absurd (omega arith)
yields_label name seen n m (Some x) count within shows found = sym shows ∙ ap (λ (k : ℕ). reverse (take k name)) count ∙ taken_turned name m x (sym found)

-- the first of what is after a place is at that place
pub first_behind : {X : Type 0} (xs : List X) (n : ℕ) (r : Option X) (rest : List X) → YieldsFirst (λ (i : List X). i) (drop n xs) r rest → r ≡ slice_get xs n
first_behind [] zero None rest h = refl
first_behind [] (suc n) None rest h = refl
first_behind [] zero (Some x) rest h = cc
first_behind [] (suc n) (Some x) rest h = cc
first_behind (y ∷ xs) zero None rest h = let e = h.0 in cc
first_behind (y ∷ xs) zero (Some x) rest h = cc
first_behind (y ∷ xs) (suc n) r rest h = first_behind xs n r rest h

pub next_behind : {X : Type 0} (xs : List X) (n : ℕ) (r : Option X) (rest : List X) → YieldsFirst (λ (i : List X). i) (drop n xs) r rest → rest ≡ drop (n + 1) xs
next_behind {X} xs n r rest h = by xs n r h ∙ ap (λ (k : ℕ). drop k xs) (sym (add-one n))
  where
    by : (l : List X) (m : ℕ) (o : Option X) → YieldsFirst (λ (i : List X). i) (drop m l) o rest → rest ≡ drop (suc m) l
    by [] zero None e = e.1
    by [] (suc m) None e = e.1
    by [] zero (Some x) e = cc
    by [] (suc m) (Some x) e = cc
    by (y ∷ l) zero None e = let k = e.0 in cc
    by (y ∷ l) zero (Some x) e = cc
    by (y ∷ l) (suc m) o e = by l m o e

pub counted : (n : ℕ) → (n ≡ 0 → ⊥) → n ≡ suc (n - 1)
counted zero h = absurd (h refl)
counted (suc n) h = omega arith
