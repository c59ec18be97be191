-- `*` below a name, and that a name with one more label has room for it.
use Rattle.std.proofs.Common.{◌≡◌, ℕ, ◌+◌, ◌<◌, ◌≤◌, Bool, true, false, ◌&&◌, List, [], ◌∷◌, ◌++◌, length, length-append, refl, sym, ap, ◌∙◌, subst, true≢false, arith, lt-ltb}
use Rattle.std.specs.Prelude.{Result, Ok, Err, OnOk, OnErr, IsTrue, flat_map}
use Rattle.std.specs.List.{list_all}
use Rattle.std.proofs.lemmas.Bool.{ltb-true}
use Rattle.std.proofs.lemmas.List.{append_assoc}
use Rattle.dns_name.specs.Names.{Name, name_wire, label_wire, is_label, is_name, labels_in, wildcard_below}
use Rattle.dns_name.proofs.NameLabels.{labels_in-name_wire}

and_left : (a b : Bool) → (a && b) ≡ true → a ≡ true
and_left true b h = refl
and_left false b h = h

and_right : (a b : Bool) → (a && b) ≡ true → b ≡ true
and_right true b h = h
and_right false b h = absurd (true≢false (sym h))

and_both : (a b : Bool) → a ≡ true → b ≡ true → (a && b) ≡ true
and_both a b p q = ap (λ x. x && b) p ∙ q

longer : (l : List ℕ) (n : Name) → length (name_wire (l ∷ n)) ≡ 1 + length l + length (name_wire n)
longer l n =
    let a = ap length (append_assoc (label_wire l) (flat_map label_wire n) (0 ∷ [])) in
    let b = length-append (label_wire l) (name_wire n) in
    omega (arith, a, b)

-- the name above another has room for one octet and its length
pub room_above : (m n : Name) (l : List ℕ) → m ≡ l ∷ n → IsTrue (is_name m) → length (name_wire n) ≤ 253
room_above m n l e h =
    let named : is_name (l ∷ n) ≡ true = ap is_name (sym e) ∙ h in
    let label : is_label l ≡ true = and_left (is_label l) (list_all is_label n) (and_left (list_all is_label (l ∷ n)) _ named) in
    let some : 0 < length l = ltb-true 0 (length l) (and_left _ _ (and_left _ _ label)) in
    let whole : length (name_wire (l ∷ n)) < 256 = ltb-true _ 256 (and_right (list_all is_label (l ∷ n)) _ named) in
    let w = longer l n in
    omega (arith, some, whole, w)

put : {A B : Type 0} (r : Result A B) (new old octets : List ℕ) → OnOk r (new ≡ old ++ octets) → OnErr r (256 ≤ length old + length octets) → length old + length octets ≤ 255 → new ≡ old ++ octets
put (Ok a) new old octets ok full few = ok
put (Err b) new old octets ok full few = absurd (omega (arith, full, few))

wildcard_named : (n : Name) → IsTrue (is_name n) → length (name_wire n) ≤ 253 → is_name (wildcard_below n) ≡ true
wildcard_named n h few =
    let w = longer (42 ∷ []) n in
    and_both (list_all is_label n) _ (and_left (list_all is_label n) _ h) (lt-ltb (length (name_wire (wildcard_below n))) 256 (omega (arith, w, few)))

-- what stands after `*` once the name was put there
pub wildcard_put : {A B : Type 0} (r : Result A B) (new old octets : List ℕ) (n : Name) → OnOk r (new ≡ old ++ octets) → OnErr r (256 ≤ length old + length octets)
    → old ≡ 1 ∷ 42 ∷ [] → octets ≡ name_wire n → length (name_wire n) ≤ 253 → new ≡ name_wire (wildcard_below n)
wildcard_put r new old octets n ok full eo ec few =
    let lo = ap length eo in
    let lc = ap length ec in
    put r new old octets ok full (omega (arith, lo, lc, few)) ∙ ap (λ x. x ++ octets) eo ∙ ap (λ x. (1 ∷ 42 ∷ []) ++ x) ec

pub wildcard_is : (new : List ℕ) (n : Name) → new ≡ name_wire (wildcard_below n) → IsTrue (is_name n) → length (name_wire n) ≤ 253 → labels_in new ≡ wildcard_below n
wildcard_is new n e h few = ap labels_in e ∙ labels_in-name_wire (wildcard_below n) (wildcard_named n h few)

pub wildcard_is_name : (new : List ℕ) (n : Name) → new ≡ name_wire (wildcard_below n) → IsTrue (is_name n) → length (name_wire n) ≤ 253 → IsTrue (is_name (labels_in new))
wildcard_is_name new n e h few = ap is_name (wildcard_is new n e h few) ∙ wildcard_named n h few

pub wildcard_spelled : (new : List ℕ) (n : Name) → new ≡ name_wire (wildcard_below n) → IsTrue (is_name n) → length (name_wire n) ≤ 253 → name_wire (labels_in new) ≡ new
wildcard_spelled new n e h few = ap name_wire (wildcard_is new n e h few) ∙ sym e
