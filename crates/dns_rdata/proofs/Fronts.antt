-- Octets that begin with others, and octets that are spelled alike.
use Rattle.std.proofs.Common.{◌≡◌, ℕ, suc, ◌<◌, ◌==◌, Bool, true, false, List, [], ◌∷◌, ◌++◌, ◌&&◌, length, take, drop, refl, sym, ap, ◌∙◌, arith, length-append, bytes_eq, eq-eqb}
use Rattle.std.proofs.lemmas.Bool.{ne_eqb}
use Rattle.std.proofs.lemmas.List.{take_at, drop_at, append_assoc}
use Rattle.std.specs.Cmp.Lexicographic.{bytes_decides}

-- the octets don't begin so
abbrev pub BeginsNot : List ℕ → List ℕ → Type 0
BeginsNot front octets = (rest : List ℕ) → octets ≡ front ++ rest → ⊥

pub too_short : (f o : List ℕ) → length o < length f → BeginsNot f o
too_short f o h rest e = absurd (omega (arith, ap length e, length-append f rest))

pub other_start : (f o : List ℕ) → (take (length f) o ≡ f → ⊥) → BeginsNot f o
other_start f o h rest e = h (ap (take (length f)) e ∙ take_at f rest (length f) refl)

not_true : (b : Bool) → (b ≡ true → ⊥) → b ≡ false
not_true true h = absurd (h refl)
not_true false h = refl

pub differ : (a b : List ℕ) → (a ≡ b → ⊥) → bytes_eq a b ≡ false
differ a b h = not_true (bytes_eq a b) (λ e. h ((bytes_decides a b).0 e))

pub same_front : (f w r : List ℕ) → bytes_eq (f ++ w) (f ++ r) ≡ bytes_eq w r
same_front [] w r = refl
same_front (x ∷ f) w r = (λ i. eq-eqb x x refl i && bytes_eq (f ++ w) (f ++ r)) ∙ same_front f w r

-- the front isn't there
pub wrong_front : (f w o : List ℕ) → BeginsNot f o → bytes_eq (f ++ w) o ≡ false
wrong_front f w o h = differ (f ++ w) o (λ e. h w (sym e))

-- one front is there
pub one_front : (a w o r : List ℕ) → o ≡ a ++ r → bytes_eq (a ++ w) o ≡ bytes_eq w r
one_front a w o r e = ap (bytes_eq (a ++ w)) e ∙ same_front a w r

-- of two fronts the first isn't there, or the second one, or both are
pub first_absent : (a b o : List ℕ) → BeginsNot a o → BeginsNot (a ++ b) o
first_absent a b o h rest e = h (b ++ rest) (e ∙ append_assoc a b rest)

pub second_absent : (a b o r : List ℕ) → o ≡ a ++ r → BeginsNot b r → BeginsNot (a ++ b) o
second_absent a b o r e h rest f =
    let left : drop (length a) o ≡ r = ap (drop (length a)) e ∙ drop_at a r (length a) refl in
    let found : drop (length a) o ≡ b ++ rest = ap (drop (length a)) (f ∙ append_assoc a b rest) ∙ drop_at a (b ++ rest) (length a) refl in
    h rest (sym left ∙ found)

pub both_there : (a b o r s : List ℕ) → o ≡ a ++ r → r ≡ b ++ s → o ≡ (a ++ b) ++ s
both_there a b o r s e f = e ∙ ap (λ x. a ++ x) f ∙ sym (append_assoc a b s)

-- nothing is left
pub empty_alike : (r : List ℕ) → (length r == 0) ≡ bytes_eq [] r
empty_alike [] = refl
empty_alike (x ∷ r) = ne_eqb (suc (length r)) 0 (omega arith)
