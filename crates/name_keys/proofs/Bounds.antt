-- How long a key is.
use Rattle.std.proofs.Common.{◌≡◌, ℕ, zero, suc, ◌+◌, ◌*◌, ◌≤◌, List, [], ◌∷◌, length, length-append, refl, ap, ◌∙◌, arith}
use Rattle.std.specs.Prelude.{flat_map, IsTrue}
use Rattle.std.specs.Str.{str_to_ascii_lowercase}
use Rattle.std.proofs.lemmas.List.{length-map}
use Rattle.dns_name.specs.Names.{Name, is_name, name_wire}
use Rattle.dns_name.proofs.WireForms.{name_short, first_wire, rest_is_name, first_is_label, label_short}
use Rattle.name_keys.specs.NameKeys.{octet_key, label_key, name_key}
use Rattle.name_keys.proofs.Octets.{plain_octet, last_label}

octet_long : (c : ℕ) → length (octet_key c) ≤ 2
octet_long zero = omega arith
octet_long (suc zero) = omega arith
octet_long (suc (suc c)) = let e = ap length (plain_octet (suc (suc c)) (omega arith)) in omega (arith, e)

octets_long : (label : List ℕ) → length (flat_map octet_key label) ≤ 2 * length label
octets_long [] = omega arith
octets_long (c ∷ label) =
    let both = length-append (octet_key c) (flat_map octet_key label) in
    omega (arith, both, octet_long c, octets_long label)

-- two octets of a key for each octet of the wire form, less one for each label and two for the root
by_wire : (n : Name) → length (name_key n) + length n + 2 ≤ 2 * length (name_wire n)
by_wire [] = omega arith
by_wire (l ∷ n) =
    let folded = str_to_ascii_lowercase l in
    let key = ap length (last_label l n) ∙ length-append (name_key n) (label_key folded) in
    let label = length-append (flat_map octet_key folded) (0 ∷ []) in
    let wire = ap length (first_wire l n) in
    let long = length-append l (name_wire n) in
    let same : length folded ≡ length l = rw length-map refl in
    omega (arith, key, label, wire, long, same, octets_long folded, by_wire n)

-- labels have 63 octets at most, and their length before them
by_labels : (n : Name) → IsTrue (is_name n) → length (name_wire n) ≤ 64 * length n + 1
by_labels [] h = omega arith
by_labels (l ∷ n) h =
    let wire = ap length (first_wire l n) in
    let long = length-append l (name_wire n) in
    omega (arith, wire, long, label_short l (first_is_label l n h), by_labels n (rest_is_name l n h))

pub key_short : (n : Name) → IsTrue (is_name n) → length (name_key n) ≤ 504
key_short n h = omega (arith, by_wire n, by_labels n h, name_short n h)
