-- Comparing names as they are spelled: by their wire forms, and label by label.
use Rattle.std.proofs.Common.{◌≡◌, ℕ, ◌+◌, ◌-◌, ◌<◌, ◌≤◌, List, [], ◌∷◌, ◌++◌, length, reverse, take, drop, refl, sym, ap, ◌∙◌, true, arith, Decides, nat_cmp, bytes_eq, Less, Equal, Greater}
use Rattle.std.specs.Ordering.{ordering_then}
use Rattle.std.specs.declared.cmp.Ordering.{Ordering}
use Rattle.std.specs.Cmp.{nat_cmp_is}
use Rattle.std.specs.Cmp.Lexicographic.{slice_cmp, pointwise_decides, bytes_decides}
use Rattle.std.proofs.lemmas.Bool.Decides.{same_from_decides}
use Rattle.std.proofs.lemmas.List.{take-append-drop, length-drop, length-take-le, length-reverse, reverse-append}
use Rattle.dns_name.specs.Names.{Name, is_name, name_wire, labels_in, labels_eq, spelling_cmp}
use Rattle.dns_name.proofs.NameLabels.{labels_in-name_wire}

-- names are alike where their wire forms are
pub wires_alike : (a b : Name) → is_name a ≡ true → is_name b ≡ true → bytes_eq (name_wire a) (name_wire b) ≡ labels_eq a b
wires_alike a b ga gb =
    let w = bytes_decides (name_wire a) (name_wire b) in
    let by_wire : Decides (bytes_eq (name_wire a) (name_wire b)) (a ≡ b) =
    (λ t. sym (labels_in-name_wire a ga) ∙ ap labels_in (w.0 t) ∙ labels_in-name_wire b gb, λ e. w.1 (ap name_wire e)) in
    same_from_decides _ (labels_eq a b) by_wire (pointwise_decides bytes_decides a b)

-- ---- the order

pub then_equal : (o : Ordering) → ordering_then o Equal ≡ o
then_equal Less = refl
then_equal Equal = refl
then_equal Greater = refl

pub then_assoc : (a b c : Ordering) → ordering_then (ordering_then a b) c ≡ ordering_then a (ordering_then b c)
then_assoc Less b c = refl
then_assoc Equal b c = refl
then_assoc Greater b c = refl

append_cmp : {X : Type 0} (R : X → X → Ordering) (xs ys us vs : List X) → length xs ≡ length ys
    → slice_cmp R (xs ++ us) (ys ++ vs) ≡ ordering_then (slice_cmp R xs ys) (slice_cmp R us vs)
append_cmp R [] [] us vs e = refl
append_cmp R [] (y ∷ ys) us vs e = absurd (omega (arith, e))
append_cmp R (x ∷ xs) [] us vs e = absurd (omega (arith, e))
append_cmp R (x ∷ xs) (y ∷ ys) us vs e =
    ap (ordering_then (R x y)) (append_cmp R xs ys us vs (omega (arith, e))) ∙ sym (then_assoc (R x y) (slice_cmp R xs ys) (slice_cmp R us vs))

-- names of equally many labels, one label more in front of each
pub more_in_front : (x y : List ℕ) (a b : Name) → length a ≡ length b
    → spelling_cmp (x ∷ a) (y ∷ b) ≡ ordering_then (spelling_cmp a b) (slice_cmp nat_cmp x y)
more_in_front x y a b e =
    let R : List ℕ → List ℕ → Ordering = slice_cmp nat_cmp in
    let la = reverse-append (x ∷ []) a in
    let lb = reverse-append (y ∷ []) b in
    let same : length (reverse a) ≡ length (reverse b) = omega (arith, length-reverse a, length-reverse b, e) in
    (λ i. slice_cmp R (la i) (lb i)) ∙ append_cmp R (reverse a) (reverse b) (x ∷ []) (y ∷ []) same
    ∙ ap (ordering_then (spelling_cmp a b)) (then_equal (R x y))

-- of what is left over at most one is a list with elements
left_over : {X : Type 0} (R : X → X → Ordering) (us vs : List X) (k m n : ℕ) → m ≡ k + length us → n ≡ k + length vs → (0 < length us → length vs ≡ 0)
    → slice_cmp R us vs ≡ nat_cmp m n
left_over R [] [] k m n em en h = nat_cmp_is m n Equal (omega (arith, em, en))
left_over R [] (v ∷ vs) k m n em en h = nat_cmp_is m n Less (omega (arith, em, en))
left_over R (u ∷ us) [] k m n em en h = nat_cmp_is m n Greater (omega (arith, em, en))
left_over R (u ∷ us) (v ∷ vs) k m n em en h = absurd (omega (arith, h))

-- the labels that both have decide first, and then their number
pub by_common_labels : (a b : Name) (k : ℕ) → k ≤ length a → k ≤ length b → (k < length a → length b ≡ k)
    → spelling_cmp a b ≡ ordering_then (spelling_cmp (drop (length a - k) a) (drop (length b - k) b)) (nat_cmp (length a) (length b))
by_common_labels a b k ha hb h =
    let R : List ℕ → List ℕ → Ordering = slice_cmp nat_cmp in
    let i = length a - k in
    let j = length b - k in
    let wa : reverse a ≡ reverse (drop i a) ++ reverse (take i a) = ap reverse (sym (take-append-drop i a)) ∙ reverse-append (take i a) (drop i a) in
    let wb : reverse b ≡ reverse (drop j b) ++ reverse (take j b) = ap reverse (sym (take-append-drop j b)) ∙ reverse-append (take j b) (drop j b) in
    let da = length-reverse (drop i a) ∙ length-drop i a in
    let db = length-reverse (drop j b) ∙ length-drop j b in
    let ta = length-reverse (take i a) ∙ length-take-le i a (omega (arith, ha)) in
    let tb = length-reverse (take j b) ∙ length-take-le j b (omega (arith, hb)) in
    (λ t. slice_cmp R (wa t) (wb t))
    ∙ append_cmp R (reverse (drop i a)) (reverse (drop j b)) (reverse (take i a)) (reverse (take j b)) (omega (arith, da, db, ha, hb))
    ∙ ap (ordering_then (spelling_cmp (drop i a) (drop j b)))
    (left_over R (reverse (take i a)) (reverse (take j b)) k (length a) (length b) (omega (arith, ta, ha)) (omega (arith, tb, hb)) (λ z. omega (arith, z, ta, tb, h, ha, hb)))
