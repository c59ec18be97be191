-- Beginnings of one list, and numbers that rise by one.
use Rattle.std.proofs.Common.{◌≡◌, ℕ, ◌+◌, ◌≤◌, List, [], ◌∷◌, ◌++◌, length, Option, Some, None}
use Rattle.std.proofs.Common.{refl, ap, sym, subst, ◌∙◌, arith, append_assoc, length-append, unwrap_or}
use Rattle.std.proofs.lemmas.List.{append-nil}
use Rattle.std.specs.List.{last_or}
use mathlib.Core.List.{IsPrefix}
use Rattle.published.specs.Commits.{latest, IsNumbered, MayFollow}

pub begins_itself : {X : Type 0} (xs : List X) → IsPrefix xs xs
begins_itself xs = ([], append-nil xs)

pub begins_on : {X : Type 0} (xs ys zs : List X) → IsPrefix xs ys → IsPrefix ys zs → IsPrefix xs zs
begins_on xs ys zs p q = (p.0 ++ q.0, sym (append_assoc xs p.0 q.0) ∙ ap (λ w. w ++ q.0) p.1 ∙ q.1)

-- where two lists go on to the same, the one that is no longer begins the other
begins_longer : {X : Type 0} (xs ys more rest : List X) → xs ++ more ≡ ys ++ rest → length xs ≤ length ys → IsPrefix xs ys
begins_longer [] ys more rest e le = (ys, refl)
begins_longer (x ∷ xs) [] more rest e le = absurd (omega (arith, le))
begins_longer (x ∷ xs) (y ∷ ys) more rest e le =
    let tail = begins_longer xs ys more rest (cc e) (omega (arith, le)) in
    let head : x ≡ y = cc e in
    (tail.0, cc (head, tail.1))

-- a beginning as long as the list is the list
pub is_whole : {X : Type 0} (xs ys rest : List X) → xs ++ rest ≡ ys → length xs ≡ length ys → xs ≡ ys
is_whole xs ys [] e n = sym (append-nil xs) ∙ e
is_whole xs ys (r ∷ rest) e n = absurd (omega (arith, n, ap length e, length-append xs (r ∷ rest)))

-- the last number follows from the first and the length
pub last_number : {X : Type 0} (number : X → ℕ) (d : Option X) (c a : X) (xs : List X)
    → IsNumbered number (c ∷ xs) → last_or d (c ∷ xs) ≡ Some a → number a ≡ number c + length xs
last_number number d c a [] h e = let same : c ≡ a = ap (λ o. unwrap_or o c) e in omega (arith, ap number same)
last_number number d c a (x ∷ xs) h e = omega (arith, h.0, last_number number (Some c) x a xs h.1 e)

-- of two beginnings of one history, the one with the lesser last number begins the other
pub begins_later : {X : Type 0} (number : X → ℕ) (xs ys zs : List X) (a b : X)
    → IsPrefix xs zs → IsPrefix ys zs → IsNumbered number xs → IsNumbered number ys
    → latest xs ≡ Some a → latest ys ≡ Some b → number a ≤ number b → IsPrefix xs ys
begins_later number [] ys zs a b p q m n e f le = absurd (cc e)
begins_later number (x ∷ xs) [] zs a b p q m n e f le = absurd (cc f)
begins_later number (x ∷ xs) (y ∷ ys) [] a b p q m n e f le = absurd (cc (p.1))
begins_later number (x ∷ xs) (y ∷ ys) (z ∷ zs) a b p q m n e f le =
    let heads : x ≡ y = cc (p.1, q.1) in
    let fits : length (x ∷ xs) ≤ length (y ∷ ys) = omega (arith, le, last_number number None x a xs m e, last_number number None y b ys n f, ap number heads) in
    begins_longer (x ∷ xs) (y ∷ ys) p.0 q.0 (p.1 ∙ sym q.1) fits

pub numbered_on : {X : Type 0} (number : X → ℕ) (xs : List X) (next : X) → IsNumbered number xs → MayFollow number xs next → IsNumbered number (xs ++ next ∷ [])
numbered_on number [] next h f = tt
numbered_on number (c ∷ []) next h f = (f c refl, tt)
numbered_on number (c ∷ d ∷ more) next h f = (h.0, numbered_on number (d ∷ more) next h.1 f)

pub last_added : {X : Type 0} (d : Option X) (xs : List X) (c : X) → last_or d (xs ++ c ∷ []) ≡ Some c
last_added d [] c = refl
last_added d (x ∷ xs) c = last_added (Some x) xs c

-- a history is no longer than its last number says
pub length_fits : {X : Type 0} (number : X → ℕ) (xs : List X) (a : X) → IsNumbered number xs → latest xs ≡ Some a → length xs ≤ number a + 1
length_fits number [] a h e = absurd (cc e)
length_fits number (x ∷ xs) a h e = omega (arith, last_number number None x a xs h e)

-- a beginning of a history is numbered too
pub numbered_begins : {X : Type 0} (number : X → ℕ) (xs rest : List X) → IsNumbered number (xs ++ rest) → IsNumbered number xs
numbered_begins number [] rest h = tt
numbered_begins number (c ∷ []) rest h = tt
numbered_begins number (c ∷ d ∷ more) rest h = (h.0, numbered_begins number (d ∷ more) rest h.1)

-- what goes on from a beginning ends with no lesser number
pub begins_no_later : {X : Type 0} (number : X → ℕ) (xs ys : List X) (a b : X)
    → IsPrefix xs ys → IsNumbered number ys → latest xs ≡ Some a → latest ys ≡ Some b → number a ≤ number b
begins_no_later number [] ys a b p n e f = absurd (cc e)
begins_no_later number (x ∷ xs) ys a b p n e f =
    let whole : IsNumbered number (x ∷ xs ++ p.0) = subst (IsNumbered number) (sym p.1) n in
    let ends : latest (x ∷ xs ++ p.0) ≡ Some b = subst (λ l. latest l ≡ Some b) (sym p.1) f in
    omega (
      arith,
      last_number number None x a xs (numbered_begins number (x ∷ xs) p.0 whole) e,
      last_number number None x b (xs ++ p.0) whole ends,
      length-append xs p.0,
    )
