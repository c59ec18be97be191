-- Octets that are the wire form of a name.
use Rattle.std.proofs.Common.{◌≡◌, ℕ, ◌+◌, ◌<◌, ◌≤◌, List, [], ◌∷◌, ◌++◌, length, length-append, map, refl, sym, ap, subst, ◌∙◌, true, arith, lt-ltb, ltb-true, nat_lt, ◌&&◌, get_or, take, drop, ◌-◌, zero, suc}
use Rattle.std.specs.Prelude.{IsTrue, flat_map}
use Rattle.std.specs.List.{list_all}
use Rattle.std.specs.Char.{to_ascii_lowercase}
use Rattle.std.specs.Str.{str_to_ascii_lowercase}
use Rattle.std.proofs.lemmas.Bool.{and_parts}
use Rattle.std.proofs.lemmas.Bool.Decides.{nat_tests}
use Rattle.std.proofs.lemmas.List.{append_assoc, map-append, length-map, take_at, drop_at, take_all}
use Rattle.dns_name.specs.Names.{Name, is_label, is_name, label_wire, name_wire, labels_in, fold}
use Rattle.dns_name.proofs.NameLabels.{labels_in-name_wire, label_count}

-- the labels of a wire form
pub labels_of_wire : (octets : List ℕ) (n : Name) → octets ≡ name_wire n → IsTrue (is_name n) → labels_in octets ≡ n
labels_of_wire octets n e h = ap labels_in e ∙ labels_in-name_wire n h

-- what an owner of a wire form keeps
pub wire_invariant : (octets : List ℕ) (n : Name) → octets ≡ name_wire n → IsTrue (is_name n)
    → IsTrue (is_name (labels_in octets)) × (name_wire (labels_in octets) ≡ octets)
wire_invariant octets n e h =
    let same = labels_of_wire octets n e h in
    (subst (λ m. IsTrue (is_name m)) (sym same) h, ap name_wire same ∙ sym e)

-- the parts of a name's test
pub name_labels : (n : Name) → is_name n ≡ true → list_all is_label n ≡ true
name_labels n h = (and_parts (list_all is_label n) (nat_lt (length (name_wire n)) 256) h).0

pub name_short : (n : Name) → is_name n ≡ true → length (name_wire n) < 256
name_short n h = ltb-true (length (name_wire n)) 256 (and_parts (list_all is_label n) (nat_lt (length (name_wire n)) 256) h).1

-- the parts of a label's test
pub label_some : (l : List ℕ) → is_label l ≡ true → 0 < length l
label_some l e = ltb-true 0 (length l) (and_parts (nat_lt 0 (length l)) (nat_lt (length l) 64) (and_parts (nat_lt 0 (length l) && nat_lt (length l) 64) (list_all (λ c. nat_lt c 256) l) e).0).0

pub label_short : (l : List ℕ) → is_label l ≡ true → length l < 64
label_short l e = ltb-true (length l) 64 (and_parts (nat_lt 0 (length l)) (nat_lt (length l) 64) (and_parts (nat_lt 0 (length l) && nat_lt (length l) 64) (list_all (λ c. nat_lt c 256) l) e).0).1

pub label_octets : (l : List ℕ) → is_label l ≡ true → list_all (λ c. nat_lt c 256) l ≡ true
label_octets l e = (and_parts (nat_lt 0 (length l) && nat_lt (length l) 64) (list_all (λ c. nat_lt c 256) l) e).1

-- ---- the first label

-- the wire form of a name that begins with a label
pub first_wire : (l : List ℕ) (m : Name) → name_wire (l ∷ m) ≡ length l ∷ (l ++ name_wire m)
first_wire l m = ap (λ r. length l ∷ r) (append_assoc l (flat_map label_wire m) (0 ∷ []))

-- what is after the first label is a name
pub rest_is_name : (l : List ℕ) (m : Name) → is_name (l ∷ m) ≡ true → is_name m ≡ true
rest_is_name l m h =
    let labels = (and_parts (is_label l) (list_all is_label m) (name_labels (l ∷ m) h)).1 in
    let short = name_short (l ∷ m) h in
    let wire = ap length (first_wire l m) in
    let long = length-append l (name_wire m) in
    rw (labels, lt-ltb (length (name_wire m)) 256 (omega (arith, short, wire, long))) refl

pub first_is_label : (l : List ℕ) (m : Name) → is_name (l ∷ m) ≡ true → is_label l ≡ true
first_is_label l m h = (and_parts (is_label l) (list_all is_label m) (name_labels (l ∷ m) h)).0

-- ---- lower case

lower_small : (c : ℕ) → c < 65 → to_ascii_lowercase c ≡ c
lower_small c h = rw (lt-ltb c 65 h) refl

lower_fits : (c : ℕ) → c < 256 → to_ascii_lowercase c < 256
lower_fits c h = grind (arith, nat_tests)

lower_octets : (l : List ℕ) → list_all (λ c. nat_lt c 256) l ≡ true → list_all (λ c. nat_lt c 256) (map to_ascii_lowercase l) ≡ true
lower_octets [] h = refl
lower_octets (c ∷ l) h =
    let parts = and_parts (nat_lt c 256) (list_all (λ c. nat_lt c 256) l) h in
    rw (lt-ltb _ _ (lower_fits c (ltb-true c 256 parts.0)), lower_octets l parts.1) refl

lower_label : (l : List ℕ) → is_label l ≡ true → is_label (str_to_ascii_lowercase l) ≡ true
lower_label l h =
    rw (length-map, lt-ltb _ _ (label_some l h), lt-ltb _ _ (label_short l h), lower_octets l (label_octets l h)) refl

lower_labels : (n : Name) → list_all is_label n ≡ true → list_all is_label (fold n) ≡ true
lower_labels [] h = refl
lower_labels (l ∷ n) h =
    let parts = and_parts (is_label l) (list_all is_label n) h in
    rw (lower_label l parts.0, lower_labels n parts.1) refl

lower_wires : (n : Name) → list_all is_label n ≡ true → name_wire (fold n) ≡ map to_ascii_lowercase (name_wire n)
lower_wires [] h = refl
lower_wires (l ∷ n) h =
    let parts = and_parts (is_label l) (list_all is_label n) h in
    let small = lower_small (length l) (omega (arith, label_short l parts.0)) in
    first_wire (str_to_ascii_lowercase l) (fold n)
    ∙ rw (length-map, lower_wires n parts.1) (λ i. sym small i ∷ sym (map-append to_ascii_lowercase l (name_wire n)) i)
    ∙ ap (map to_ascii_lowercase) (sym (first_wire l n))

-- a name in lower case has its wire form in lower case
pub fold_wire : (n : Name) → is_name n ≡ true → name_wire (fold n) ≡ map to_ascii_lowercase (name_wire n)
fold_wire n h = lower_wires n (name_labels n h)

pub fold_is_name : (n : Name) → is_name n ≡ true → is_name (fold n) ≡ true
fold_is_name n h =
    let long : length (name_wire (fold n)) ≡ length (name_wire n) = rw (fold_wire n h, length-map) refl in
    rw (lower_labels n (name_labels n h), lt-ltb (length (name_wire (fold n))) 256 (omega (arith, long, name_short n h))) refl

-- the octets of a wire form in lower case
pub folded_octets : (old new : List ℕ) → IsTrue (is_name (labels_in old)) × (name_wire (labels_in old) ≡ old) → new ≡ map to_ascii_lowercase old
    → new ≡ name_wire (fold (labels_in old))
folded_octets old new h e = e ∙ ap (map to_ascii_lowercase) (sym h.1) ∙ sym (fold_wire (labels_in old) h.0)

pub octets_short : (octets : List ℕ) → IsTrue (is_name (labels_in octets)) × (name_wire (labels_in octets) ≡ octets) → length octets ≤ 255
octets_short octets h =
    let short = name_short (labels_in octets) h.0 in
    let same = ap length h.1 in
    omega (arith, short, same)

-- ---- a name split after its first label

pub record Split (octets : List ℕ) (n : Name) : Type 0 where
  pub label : List ℕ
  pub rest : Name
  pub labels : n ≡ label ∷ rest
  pub wire : octets ≡ length label ∷ (label ++ name_wire rest)
  pub name : IsTrue (is_name rest)

pub split_of : (octets : List ℕ) (n : Name) → is_name n ≡ true → name_wire n ≡ octets → (get_or octets 0 0 ≡ 0 → ⊥) → Split octets n
split_of octets [] h e ne = absurd (ne (sym (ap (λ o. get_or o 0 0) e)))
split_of octets (l ∷ m) h e ne = record { label = l; rest = m; labels = refl; wire = sym e ∙ first_wire l m; name = rest_is_name l m h }

pub root_of : (octets : List ℕ) (n : Name) → is_name n ≡ true → name_wire n ≡ octets → get_or octets 0 0 ≡ 0 → n ≡ []
root_of octets [] h e z = refl
root_of octets (l ∷ m) h e z =
    let some = label_some l (first_is_label l m h) in
    let head : get_or octets 0 0 ≡ length l = ap (λ o. get_or o 0 0) (sym e) in
    absurd (omega (arith, some, head, z))

pub rest_octets : (octets l w : List ℕ) → octets ≡ length l ∷ (l ++ w)
    → take (length octets - (1 + get_or octets 0 0)) (drop (1 + get_or octets 0 0) octets) ≡ w
rest_octets octets l w e =
    let long = length-append l w in
    let Rest : List ℕ → Type 0 = λ o. take (length o - (1 + get_or o 0 0)) (drop (1 + get_or o 0 0) o) ≡ w in
    subst Rest (sym e) (rw (drop_at (length l ∷ l) w (1 + length l) (omega arith)) (take_all _ w (omega (arith, long))))

pub label_octets_are : (octets l w : List ℕ) → octets ≡ length l ∷ (l ++ w)
    → take ((1 + get_or octets 0 0) - 1) (drop 1 octets) ≡ l
label_octets_are octets l w e =
    let Is : List ℕ → Type 0 = λ o. take ((1 + get_or o 0 0) - 1) (drop 1 o) ≡ l in
    subst Is (sym e) (take_at l w _ (omega arith))

-- a name has 127 labels at most
pub few_labels : (n : Name) → is_name n ≡ true → length n ≤ 127
few_labels n h =
    let twice = label_count n (name_labels n h) in
    let end = length-append (flat_map label_wire n) (0 ∷ []) in
    omega (arith, twice, end, name_short n h)

-- what is left of a name is one
pub drop_is_name : (k : ℕ) (n : Name) → is_name n ≡ true → is_name (drop k n) ≡ true
drop_is_name zero n h = h
drop_is_name (suc k) [] h = h
drop_is_name (suc k) (l ∷ n) h = drop_is_name k n (rest_is_name l n h)
