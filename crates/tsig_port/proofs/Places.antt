-- Where the additional records of a message begin: after its header.
use Rattle.std.proofs.Common.{◌≡◌, ℕ, zero, suc, ◌<◌, ◌≤◌, List, [], ◌∷◌, length, refl, sym, ap, arith, Option, Some, None}
use Rattle.std.specs.Prelude.{option_and_then, slice_get, if◌then◌else◌}
use Rattle.std.specs.List.{AllByRecursion}
use Rattle.dns_name.specs.Octets.{octets_at, u16_at, u32_at}
use Rattle.dns_name.specs.Names.{Name}
use Rattle.dns_name.specs.Compression.{element_from, SpelledName, spelled, name_of, within_limits, name_at}
use Rattle.dns_rdata.specs.Heads.{RawRecord, raw_record_at}
use Rattle.dns_wire.specs.Parse.{readings, reading_then, additional_start, section_readings, additional_readings}
use Rattle.dns_wire.proofs.Places.{bound, held, record_ends, additional_behind}
use Rattle.tsig_port.specs.Received.{IsBehindHeader}

-- ---- names

first_octet : (m : List ℕ) (p : ℕ) (name : ℕ → Option SpelledName) (s : SpelledName) (o : Option ℕ) → slice_get m p ≡ o
    → spelled name p (option_and_then (element_from m p) o) ≡ Some s → (c : ℕ) × (slice_get m p ≡ Some c)
first_octet m p name s None e r = absurd (cc r)
first_octet m p name s (Some c) e r = (c, e)

read_within : (m : List ℕ) (p c : ℕ) → slice_get m p ≡ Some c → p < length m
read_within [] zero c e = absurd (cc e)
read_within [] (suc p) c e = absurd (cc e)
read_within (x ∷ m) zero c e = omega arith
read_within (x ∷ m) (suc p) c e =
    let rest = read_within m p c e in
    omega (arith, rest)

-- and begins within the message
name_at-within : (m : List ℕ) (p : ℕ) (r : Name × ℕ) → name_at m p ≡ Some r → p < length m
unfolding name_of
name_at-within m p r e =
    let (s, found, rest) = bound (name_of 512 m p) (λ s. if within_limits s then Some (s.labels, s.after) else None) r e in
    let (c, is) = first_octet m p (name_of 511 m) s (slice_get m p) refl found in
    read_within m p c is

-- ---- records

-- where a record begins and ends
record_places : (m : List ℕ) (p : ℕ) (r : RawRecord × ℕ) → raw_record_at m p ≡ Some r → (p < r.1) × (r.0.start ≡ p) × (p < length m)
unfolding raw_record_at
record_places m p r e =
    let (n, named, e1) = bound (name_at m p) _ r e in
    let (t, typed, e2) = bound (u16_at m n.1) _ r e1 in
    let (c, classed, e3) = bound (u16_at m t.1) _ r e2 in
    let (l, timed, e4) = bound (u32_at m c.1) _ r e3 in
    let (d, counted, e5) = bound (u16_at m l.1) _ r e4 in
    let (o, filled, e6) = bound (octets_at d.0 m d.1) _ r e5 in
    let begins : p ≡ r.0.start = ap (λ (y : RawRecord × ℕ). y.0.start) (held _ r e6) in
    (record_ends m p r e, sym begins, name_at-within m p n named)

behind_by : (m : List ℕ) (n p : ℕ) (o : Option (RawRecord × ℕ)) → raw_record_at m p ≡ o → 12 ≤ p
    → ((q : ℕ) → 12 ≤ q → AllByRecursion (IsBehindHeader m) (readings (raw_record_at m) n q))
    → AllByRecursion (IsBehindHeader m) (reading_then (readings (raw_record_at m) n) o)
behind_by m n p None e far rest = (tt, tt)
behind_by m n p (Some r) e far rest =
    let (ends, begins, within) = record_places m p r e in
    ((omega (arith, begins, far), omega (arith, begins, within)), rest r.1 (omega (arith, ends, far)))

readings_behind : (m : List ℕ) (n p : ℕ) → 12 ≤ p → AllByRecursion (IsBehindHeader m) (readings (raw_record_at m) n p)
unfolding readings
readings_behind m zero p far = tt
readings_behind m (suc n) p far = behind_by m n p (raw_record_at m p) refl far (λ q h. readings_behind m n q h)

behind_start : (m : List ℕ) (o : Option ℕ) → additional_start m ≡ o → AllByRecursion (IsBehindHeader m) (section_readings m 10 o)
behind_start m None e = tt
behind_start m (Some p) e = readings_behind m _ p (additional_behind m p e)

pub additional_readings-behind : (m : List ℕ) → AllByRecursion (IsBehindHeader m) (additional_readings m)
additional_readings-behind m = behind_start m (additional_start m) refl
