-- Keys compare as the names do.
use Rattle.std.proofs.Common.{◌≡◌, ℕ, zero, suc, ◌<◌, List, [], ◌∷◌, ◌++◌, refl, sym, ap, ◌∙◌, arith, nat_cmp, Less, Equal, Greater}
use Rattle.std.specs.Prelude.{flat_map, reverse}
use Rattle.std.specs.Ordering.{ordering_then}
use Rattle.std.specs.declared.cmp.Ordering.{Ordering}
use Rattle.std.specs.Cmp.{nat_cmp_is}
use Rattle.std.specs.Cmp.Lexicographic.{slice_cmp}
use Rattle.dns_name.specs.Names.{Name, fold, canonical_cmp}
use Rattle.name_keys.specs.NameKeys.{octet_key, label_key, name_key}
use Rattle.name_keys.proofs.Octets.{plain_octet, first_octet}

-- strings of octets, octet by octet
abbrev pub cmp : List ℕ → List ℕ → Ordering
cmp = slice_cmp nat_cmp

then_assoc : (a b c : Ordering) → ordering_then (ordering_then a b) c ≡ ordering_then a (ordering_then b c)
then_assoc Less b c = refl
then_assoc Equal b c = refl
then_assoc Greater b c = refl

-- the first octets decide
pub less_first : (c d : ℕ) (x y : List ℕ) → c < d → cmp (c ∷ x) (d ∷ y) ≡ Less
less_first c d x y h = ap (λ o. ordering_then o (cmp x y)) (sym (nat_cmp_is c d Less h))

pub greater_first : (c d : ℕ) (x y : List ℕ) → d < c → cmp (c ∷ x) (d ∷ y) ≡ Greater
greater_first c d x y h = ap (λ o. ordering_then o (cmp x y)) (sym (nat_cmp_is c d Greater h))

pub same_first : (c : ℕ) (x y : List ℕ) → cmp (c ∷ x) (c ∷ y) ≡ cmp x y
same_first c x y = ap (λ o. ordering_then o (cmp x y)) (sym (nat_cmp_is c c Equal refl))

-- octets that are put out compare as they do, and what is after them counts where they are equal
pub octets_order : (c d : ℕ) (x y : List ℕ) → cmp (octet_key c ++ x) (octet_key d ++ y) ≡ ordering_then (nat_cmp c d) (cmp x y)
octets_order zero zero x y = refl
octets_order zero (suc zero) x y = refl
octets_order (suc zero) zero x y = refl
octets_order (suc zero) (suc zero) x y = refl
octets_order zero (suc (suc d)) x y =
    let e = plain_octet (suc (suc d)) (omega arith) in
    ap (λ k. cmp (1 ∷ 1 ∷ x) (k ++ y)) e ∙ less_first 1 (suc (suc d)) (1 ∷ x) y (omega arith)
    ∙ ap (λ o. ordering_then o (cmp x y)) (nat_cmp_is 0 (suc (suc d)) Less (omega arith))
octets_order (suc zero) (suc (suc d)) x y =
    let e = plain_octet (suc (suc d)) (omega arith) in
    ap (λ k. cmp (1 ∷ 2 ∷ x) (k ++ y)) e ∙ less_first 1 (suc (suc d)) (2 ∷ x) y (omega arith)
    ∙ ap (λ o. ordering_then o (cmp x y)) (nat_cmp_is 1 (suc (suc d)) Less (omega arith))
octets_order (suc (suc c)) zero x y =
    let e = plain_octet (suc (suc c)) (omega arith) in
    ap (λ k. cmp (k ++ x) (1 ∷ 1 ∷ y)) e ∙ greater_first (suc (suc c)) 1 x (1 ∷ y) (omega arith)
    ∙ ap (λ o. ordering_then o (cmp x y)) (nat_cmp_is (suc (suc c)) 0 Greater (omega arith))
octets_order (suc (suc c)) (suc zero) x y =
    let e = plain_octet (suc (suc c)) (omega arith) in
    ap (λ k. cmp (k ++ x) (1 ∷ 2 ∷ y)) e ∙ greater_first (suc (suc c)) 1 x (2 ∷ y) (omega arith)
    ∙ ap (λ o. ordering_then o (cmp x y)) (nat_cmp_is (suc (suc c)) 1 Greater (omega arith))
octets_order (suc (suc c)) (suc (suc d)) x y =
    let e = plain_octet (suc (suc c)) (omega arith) in
    let f = plain_octet (suc (suc d)) (omega arith) in
    λ i. cmp (e i ++ x) (f i ++ y)

-- the end of a label comes before every octet of one
end_before : (d : ℕ) (x y : List ℕ) → cmp (0 ∷ x) (octet_key d ++ y) ≡ Less
end_before zero x y = refl
end_before (suc zero) x y = refl
end_before (suc (suc d)) x y =
    ap (λ k. cmp (0 ∷ x) (k ++ y)) (plain_octet (suc (suc d)) (omega arith)) ∙ less_first 0 (suc (suc d)) x y (omega arith)

end_behind : (c : ℕ) (x y : List ℕ) → cmp (octet_key c ++ x) (0 ∷ y) ≡ Greater
end_behind zero x y = refl
end_behind (suc zero) x y = refl
end_behind (suc (suc c)) x y =
    ap (λ k. cmp (k ++ x) (0 ∷ y)) (plain_octet (suc (suc c)) (omega arith)) ∙ greater_first (suc (suc c)) 0 x y (omega arith)

-- labels compare as strings of octets, and what is after them counts where they are equal
labels_order : (a b : List ℕ) (x y : List ℕ) → cmp (label_key a ++ x) (label_key b ++ y) ≡ ordering_then (cmp a b) (cmp x y)
labels_order [] [] x y = refl
labels_order [] (d ∷ b) x y =
    ap (λ k. cmp (0 ∷ x) k) (first_octet d b y) ∙ end_before d x (label_key b ++ y)
labels_order (c ∷ a) [] x y =
    ap (λ k. cmp k (0 ∷ y)) (first_octet c a x) ∙ end_behind c (label_key a ++ x) y
labels_order (c ∷ a) (d ∷ b) x y =
    (λ i. cmp (first_octet c a x i) (first_octet d b y i))
    ∙ octets_order c d (label_key a ++ x) (label_key b ++ y)
    ∙ ap (ordering_then (nat_cmp c d)) (labels_order a b x y)
    ∙ sym (then_assoc (nat_cmp c d) (cmp a b) (cmp x y))

-- no label is a string without octets
some_octet : (b : List ℕ) (y : List ℕ) → cmp [] (label_key b ++ y) ≡ Less
some_octet [] y = refl
some_octet (zero ∷ b) y = refl
some_octet (suc zero ∷ b) y = refl
some_octet (suc (suc d) ∷ b) y =
    ap (λ k. cmp [] k) (first_octet (suc (suc d)) b y ∙ ap (λ k. k ++ (label_key b ++ y)) (plain_octet (suc (suc d)) (omega arith)))

some_octet_behind : (a : List ℕ) (x : List ℕ) → cmp (label_key a ++ x) [] ≡ Greater
some_octet_behind [] x = refl
some_octet_behind (zero ∷ a) x = refl
some_octet_behind (suc zero ∷ a) x = refl
some_octet_behind (suc (suc c) ∷ a) x =
    ap (λ k. cmp k []) (first_octet (suc (suc c)) a x ∙ ap (λ k. k ++ (label_key a ++ x)) (plain_octet (suc (suc c)) (omega arith)))

keys_order : (a b : List (List ℕ)) → cmp (flat_map label_key a) (flat_map label_key b) ≡ slice_cmp cmp a b
keys_order [] [] = refl
keys_order [] (l ∷ b) = some_octet l (flat_map label_key b)
keys_order (k ∷ a) [] = some_octet_behind k (flat_map label_key a)
keys_order (k ∷ a) (l ∷ b) =
    labels_order k l (flat_map label_key a) (flat_map label_key b) ∙ ap (ordering_then (cmp k l)) (keys_order a b)

pub names_order : (m n : Name) → cmp (name_key m) (name_key n) ≡ canonical_cmp m n
names_order m n = keys_order (reverse (fold m)) (reverse (fold n))
