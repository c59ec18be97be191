-- Labels of hosts, and names below the apex.
use Rattle.std.proofs.Common.{◌≡◌, ℕ, ◌+◌, ◌/◌, ◌^◌, ◌<◌, ◌≤◌, List, [], ◌∷◌, ◌++◌, length, length-append, refl, ap, ◌∙◌, true, arith, mod-lt, lt-ltb}
use Rattle.std.specs.Prelude.{nat_lt, decimal}
use Rattle.std.specs.Char.{to_ascii_lowercase}
use Rattle.std.specs.List.{list_all}
use Rattle.std.proofs.lemmas.Bool.{ne_eqb}
use Rattle.std.proofs.lemmas.Fmt.{length-decimal-le, IsAscii-decimal}
use Rattle.std.proofs.lemmas.List.{length-map}
use Rattle.dns_name.specs.Names.{Name, name_wire, is_label, is_name, fold}
use Rattle.dns_name.proofs.Elements.{octets_fit}
use Rattle.dns_name.proofs.WireForms.{first_wire, fold_wire, fold_is_name}
use Rattle.zone_reads.proofs.ChildNames.{Joined, joined}
use Rattle.zone_generated.specs.Generated.{host_number, host_label, zone_name}

-- `h` and ten digits at most
pub short_label : (n x : ℕ) → 0 < n → n < 2 ^ 32 → length (host_label n x) ≤ 63
short_label n x some small =
    let below : host_number n x < n = mod-lt (x / 2 ^ 33) some in
    let digits = length-decimal-le 10 (host_number n x) (omega arith) (omega (arith, below, small)) (omega (arith, below, small)) in
    omega (arith, digits)

-- what is put together: the label's length, the label, and the apex
pub below : (l start first second whole : List ℕ) → start ≡ [] → first ≡ start ++ length l ∷ [] → second ≡ first ++ l → whole ≡ second ++ name_wire zone_name
    → 0 < length l → length l ≤ 63 → list_all (λ c. nat_lt c 256) l ≡ true → Joined l zone_name whole
below l start first second whole e0 e1 e2 e3 some short octets = joined l zone_name [] second (name_wire zone_name) whole refl spelled refl e3 fits (ne_eqb (length l) 0 (λ z. omega (arith, z, some))) short octets refl
  where
    spelled : second ≡ length l ∷ l
    spelled = e2 ∙ ap (λ o. o ++ l) (e1 ∙ ap (λ o. o ++ length l ∷ []) e0)

    fits : length second + length (name_wire zone_name) ≤ 255
    fits =
        let long = ap length spelled in
        omega (arith, long, short)

-- ---- owners of hosts

-- `h` and so many digits
label_length : (n x : ℕ) → 0 < n → n < 2 ^ 32 → length (host_label n x) ≤ 11
label_length n x some small =
    let below : host_number n x < n = mod-lt (x / 2 ^ 33) some in
    let digits = length-decimal-le 10 (host_number n x) (omega arith) (omega (arith, below, small)) (omega (arith, below, small)) in
    omega (arith, digits)

label_fits : (n x : ℕ) → 0 < n → n < 2 ^ 32 → list_all (λ c. nat_lt c 256) (host_label n x) ≡ true
label_fits n x some small =
    let below : host_number n x < n = mod-lt (x / 2 ^ 33) some in
    let ascii = IsAscii-decimal (host_number n x) (omega (arith, below, small)) in
    octets_fit (decimal (host_number n x)) (λ k. omega (arith, ascii k))

is_host_label : (n x : ℕ) → 0 < n → n < 2 ^ 32 → is_label (host_label n x) ≡ true
is_host_label n x some small =
    let l = host_label n x in
    rw (lt-ltb 0 (length l) (omega arith), lt-ltb (length l) 64 (omega (arith, label_length n x some small)), label_fits n x some small) refl

-- the owner of a host's record
abbrev pub host_owner : ℕ → ℕ → Name
host_owner n x = host_label n x ∷ zone_name

owner_length : (n x : ℕ) → 0 < n → n < 2 ^ 32 → length (name_wire (host_owner n x)) ≤ 21
owner_length n x some small =
    let l = host_label n x in
    let wire = ap length (first_wire l zone_name) in
    omega (arith, wire, length-append l (name_wire zone_name), label_length n x some small)

is_owner : (n x : ℕ) → 0 < n → n < 2 ^ 32 → is_name (host_owner n x) ≡ true
is_owner n x some small =
    rw (is_host_label n x some small, lt-ltb (length (name_wire (host_owner n x))) 256 (omega (arith, owner_length n x some small))) refl

-- .. as a zone keeps it
pub kept_is_name : (n x : ℕ) → 0 < n → n < 2 ^ 32 → is_name (fold (host_owner n x)) ≡ true
kept_is_name n x some small = fold_is_name (host_owner n x) (is_owner n x some small)

pub kept_length : (n x : ℕ) → 0 < n → n < 2 ^ 32 → length (name_wire (fold (host_owner n x))) ≤ 21
kept_length n x some small =
    let wire = ap length (fold_wire (host_owner n x) (is_owner n x some small)) in
    omega (arith, wire, length-map (name_wire (host_owner n x)) to_ascii_lowercase, owner_length n x some small)
