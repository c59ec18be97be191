-- Octets compared by their differences, all joined.
use Rattle.std.proofs.Common.{◌≡◌, ℕ, zero, suc, ◌+◌, ◌<◌, ◌≤◌, Bool, true, false, ◌&&◌, ◌==◌, nat_eq, List, [], ◌∷◌, length, drop, get_or, bit_or, bit_xor, refl, sym, ap, ◌∙◌, arith}
use Rattle.std.specs.Cmp.Lexicographic.{pointwise}
use Rattle.std.proofs.lemmas.Bool.Decides.{nat_tests, same_from_decides, Decides-eqb}
use Rattle.std.proofs.lemmas.List.{drop_more, drop_all}
use Rattle.std.proofs.lemmas.Nat.{le_or_l}
use lib.Bits.{xor_assoc, xor_self, xor_zero_r}

and_true : (b : Bool) → (b && true) ≡ b
and_true true = refl
and_true false = refl

and_false : (b : Bool) → (b && false) ≡ false
and_false true = refl
and_false false = refl

and_grouped : (a b c : Bool) → ((a && b) && c) ≡ (a && (b && c))
and_grouped true b c = refl
and_grouped false b c = refl

-- octets that are more than the others are no first ones of them
pub shorter_differs : (xs ys : List ℕ) → length ys < length xs → pointwise nat_eq xs ys ≡ false
shorter_differs [] ys less = absurd (omega arith)
shorter_differs (x ∷ xs) [] less = refl
shorter_differs (x ∷ xs) (y ∷ ys) less = ap (λ b. nat_eq x y && b) (shorter_differs xs ys (omega arith)) ∙ and_false (nat_eq x y)

not_zero : (n : ℕ) → 0 < n → (n == 0) ≡ false
not_zero n some = grind (arith, nat_tests)

-- two octets are the same where their difference is 0
no_difference : (a b : ℕ) → (bit_xor a b == 0) ≡ (a == b)
no_difference a b =
    same_from_decides {P = a ≡ b} (bit_xor a b == 0) (a == b) (
      λ none. sym (xor_zero_r a) ∙ ap (bit_xor a) (sym (xor_self b)) ∙ sym (xor_assoc a b b) ∙ ap (λ n. bit_xor n b) ((Decides-eqb (bit_xor a b) 0).0 none),
      λ same. (Decides-eqb (bit_xor a b) 0).1 (ap (λ n. bit_xor n b) same ∙ xor_self b),
    )
    (Decides-eqb a b)

-- two joined are 0 where both are
neither : (a b : ℕ) → (bit_or a b == 0) ≡ ((a == 0) && (b == 0))
neither zero b = refl
neither (suc a) b = not_zero (bit_or (suc a) b) (omega (arith, le_or_l (suc a) b)) ∙ sym (ap (λ t. t && (b == 0)) (not_zero (suc a) (omega arith)))

-- one place more
pub joined_more : (xs ys : List ℕ) (i joined : ℕ) → i < length xs → i < length ys
    → ((bit_or joined (bit_xor (get_or xs i 0) (get_or ys i 0)) == 0) && pointwise nat_eq (drop (i + 1) xs) (drop (i + 1) ys))
    ≡ ((joined == 0) && pointwise nat_eq (drop i xs) (drop i ys))
joined_more xs ys i joined one other =
    let x = get_or xs i 0 in
    let y = get_or ys i 0 in
    let rest = pointwise nat_eq (drop (i + 1) xs) (drop (i + 1) ys) in
    let here : pointwise nat_eq (drop i xs) (drop i ys) ≡ ((x == y) && rest) =
    ap (λ l. pointwise nat_eq l (drop i ys)) (drop_more xs i 0 one) ∙ ap (λ l. pointwise nat_eq (x ∷ drop (i + 1) xs) l) (drop_more ys i 0 other) in
    ap (λ t. t && rest) (neither joined (bit_xor x y) ∙ ap (λ t. (joined == 0) && t) (no_difference x y))
    ∙ and_grouped (joined == 0) (x == y) rest
    ∙ ap (λ t. (joined == 0) && t) (sym here)

-- behind the last place the differences joined tell
pub all_joined : (xs ys : List ℕ) (n joined : ℕ) → length xs ≤ n → length ys ≤ n → ((joined == 0) && pointwise nat_eq (drop n xs) (drop n ys)) ≡ (joined == 0)
all_joined xs ys n joined one other =
    ap (λ l. (joined == 0) && pointwise nat_eq l (drop n ys)) (drop_all n xs one)
    ∙ ap (λ l. (joined == 0) && pointwise nat_eq [] l) (drop_all n ys other)
    ∙ and_true (joined == 0)
