-- Canonical order of TSIG data, part by part.
use Rattle.std.proofs.Common.{◌≡◌, ℕ, ◌<◌, true, List, [], ◌∷◌, ◌++◌, length, drop, refl, sym, ap, ◌∙◌, arith, append_assoc}
use Rattle.std.specs.Prelude.{IsTrue, flat_map}
use Rattle.std.specs.Int.{w16, from_be_bytes}
use Rattle.std.specs.List.{list_all}
use Rattle.std.specs.declared.cmp.Ordering.{Ordering}
use Rattle.std.specs.declared.cmp.Ordering.TheVariants.{Less, Equal, Greater}
use Rattle.std.specs.Ordering.{nat_cmp, ordering_then, is_eq}
use Rattle.std.specs.Cmp.{nat_cmp_is}
use Rattle.std.specs.Cmp.Lexicographic.{slice_cmp, texts_ties, bytes_decides}
use Rattle.std.proofs.lemmas.Bool.{and_parts}
use Rattle.std.proofs.lemmas.Nat.{from_be_bytes-to_be_bytes_2}
use Rattle.dns_name.specs.Octets.{u16_octets}
use Rattle.dns_name.specs.Names.{Name, name_wire, label_wire, is_label, is_name}
use Rattle.dns_rdata.proofs.Comparing.{split_order}
use Rattle.tsig_rdata.specs.TsigData.{Tsig, tsig_wire}
use Rattle.tsig_rdata.specs.CanonicalTsig.{canonical_tsig_cmp, times_wire, state_wire}

abbrev cmp : List ℕ → List ℕ → Ordering
cmp a b = slice_cmp nat_cmp a b

-- what stands after the two lists counts only where they are equal
abbrev Splits : List ℕ → List ℕ → Type 0
Splits a b = (x y : List ℕ) → cmp (a ++ x) (b ++ y) ≡ ordering_then (cmp a b) (cmp x y)

behind : (o p q r : Ordering) → (o ≡ Equal → p ≡ ordering_then q r) → ordering_then o p ≡ ordering_then (ordering_then o q) r
behind Less p q r e = refl
behind Equal p q r e = e refl
behind Greater p q r e = refl

pub tied : (h f : List ℕ) → cmp h f ≡ Equal → h ≡ f
tied h f e = (bytes_decides h f).0 (texts_ties h f ∙ ap is_eq e)

-- parts that split, one after the other, where the second ones need to split only after equal first ones
joined : (h f a b : List ℕ) → Splits h f → (h ≡ f → Splits a b) → Splits (h ++ a) (f ++ b)
joined h f a b s t x y =
    let first : cmp (h ++ a ++ x) (f ++ b ++ y) ≡ ordering_then (cmp h f) (cmp (a ++ x) (b ++ y)) = rw (append_assoc h a x, append_assoc f b y) (s (a ++ x) (b ++ y)) in
    first ∙ behind (cmp h f) (cmp (a ++ x) (b ++ y)) (cmp a b) (cmp x y) (λ e. t (tied h f e) x y) ∙ sym (ap (λ o. ordering_then o (cmp x y)) (s a b))

long : (a b : List ℕ) → length a ≡ length b → Splits a b
long a b e x y = split_order a x b y e

carried : (a c b d : List ℕ) → c ≡ a → d ≡ b → Splits a b → Splits c d
carried a c b d p q s = rw (p, q) s

-- ---- names

first_octet : (n m : ℕ) → n ∷ [] ≡ m ∷ [] → n ≡ m
first_octet n m e = cc e

labels_split : (l k : List ℕ) → Splits (label_wire l) (label_wire k)
labels_split l k = joined (length l ∷ []) (length k ∷ []) l k (long (length l ∷ []) (length k ∷ []) refl) (λ e. long l k (first_octet (length l) (length k) e))

ahead : (n : ℕ) → 0 < n → nat_cmp 0 n ≡ Less
ahead n h = sym (nat_cmp_is 0 n Less h)

after : (n : ℕ) → 0 < n → nat_cmp n 0 ≡ Greater
after n h = sym (nat_cmp_is n 0 Greater h)

first_long : (l : List ℕ) (m : Name) → list_all is_label (l ∷ m) ≡ true → 0 < length l
first_long l m e = grind (arith, and_parts (is_label l) (list_all is_label m) e)

rest_labels : (l : List ℕ) (m : Name) → list_all is_label (l ∷ m) ≡ true → list_all is_label m ≡ true
rest_labels l m e = (and_parts (is_label l) (list_all is_label m) e).1

first_wire : (l : List ℕ) (m : Name) → name_wire (l ∷ m) ≡ label_wire l ++ name_wire m
first_wire l m = append_assoc (label_wire l) (flat_map label_wire m) (0 ∷ [])

wires_split : (m n : Name) → list_all is_label m ≡ true → list_all is_label n ≡ true → Splits (name_wire m) (name_wire n)
wires_split [] [] p q x y = refl
wires_split [] (k ∷ n) p q x y = rw (ahead (length k) (first_long k n q)) refl
wires_split (l ∷ m) [] p q x y = rw (after (length l) (first_long l m p)) refl
wires_split (l ∷ m) (k ∷ n) p q x y =
    carried (label_wire l ++ name_wire m) (name_wire (l ∷ m)) (label_wire k ++ name_wire n) (name_wire (k ∷ n)) (first_wire l m) (first_wire k n)
    (joined (label_wire l) (label_wire k) (name_wire m) (name_wire n) (labels_split l k) (λ e. wires_split m n (rest_labels l m p) (rest_labels k n q)))
    x y

-- ---- the data

lengths_equal : (a b : Tsig) → length a.mac < 65536 → length b.mac < 65536 → times_wire a ≡ times_wire b → length a.mac ≡ length b.mac
lengths_equal a b p q e =
    let lens : u16_octets (length a.mac) ≡ u16_octets (length b.mac) = ap (drop 8) e in
    sym (from_be_bytes-to_be_bytes_2 (length a.mac) p) ∙ ap (from_be_bytes w16) lens ∙ from_be_bytes-to_be_bytes_2 (length b.mac) q

then_assoc : (a b c : Ordering) → ordering_then (ordering_then a b) c ≡ ordering_then a (ordering_then b c)
then_assoc Less b c = refl
then_assoc Equal b c = refl
then_assoc Greater b c = refl

regrouped : (n t m s o : Ordering)
    → ordering_then (ordering_then (ordering_then (ordering_then n t) m) s) o ≡ ordering_then n (ordering_then (ordering_then t m) (ordering_then s o))
regrouped n t m s o =
    then_assoc (ordering_then (ordering_then n t) m) s o
    ∙ ap (λ p. ordering_then p (ordering_then s o)) (then_assoc n t m)
    ∙ then_assoc n (ordering_then t m) (ordering_then s o)

-- the rest of the data in two parts
two_parts : (t : Tsig) → tsig_wire t ≡ name_wire t.algorithm ++ ((times_wire t ++ t.mac) ++ (state_wire t ++ t.other))
two_parts t = simp append_assoc refl

pub canonical_parts : (a b : Tsig) → IsTrue (is_name a.algorithm) → IsTrue (is_name b.algorithm) → length a.mac < 65536 → length b.mac < 65536
    → ordering_then (ordering_then (ordering_then (ordering_then (slice_cmp nat_cmp (name_wire a.algorithm) (name_wire b.algorithm))
    (slice_cmp nat_cmp (times_wire a) (times_wire b))) (slice_cmp nat_cmp a.mac b.mac)) (slice_cmp nat_cmp (state_wire a) (state_wire b))) (slice_cmp nat_cmp a.other b.other)
    ≡ canonical_tsig_cmp a b
canonical_parts a b na nb ma mb =
    let m = name_wire a.algorithm in
    let n = name_wire b.algorithm in
    let ta = times_wire a in
    let tb = times_wire b in
    let sa = state_wire a in
    let sb = state_wire b in
    let names : Splits m n = wires_split a.algorithm b.algorithm (and_parts _ _ na).0 (and_parts _ _ nb).0 in
    let times : Splits ta tb = long ta tb refl in
    let states : Splits sa sb = long sa sb refl in
    let macs : Splits (ta ++ a.mac) (tb ++ b.mac) = joined ta tb a.mac b.mac times (λ e. long a.mac b.mac (lengths_equal a b ma mb e)) in
    let whole : canonical_tsig_cmp a b ≡ ordering_then (cmp m n) (ordering_then (ordering_then (cmp ta tb) (cmp a.mac b.mac)) (ordering_then (cmp sa sb) (cmp a.other b.other))) =
    rw (
      two_parts a,
      two_parts b,
      names ((ta ++ a.mac) ++ (sa ++ a.other)) ((tb ++ b.mac) ++ (sb ++ b.other)),
      macs (sa ++ a.other) (sb ++ b.other),
      times a.mac b.mac,
      states a.other b.other,
    ) refl in
    regrouped (cmp m n) (cmp ta tb) (cmp a.mac b.mac) (cmp sa sb) (cmp a.other b.other) ∙ sym whole
