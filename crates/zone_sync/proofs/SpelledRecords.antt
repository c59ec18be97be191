-- A record that is read from whole octets has a wire form, and data of its type.
use Rattle.std.proofs.Common.{◌≡◌, ℕ, suc, ◌+◌, ◌-◌, ◌*◌, ◌^◌, ◌<◌, ◌≤◌, Bool, true, false, List, [], ◌∷◌, ◌++◌, length, length-append, take, drop, refl, ap, subst, ◌∙◌, sym, arith, lit<, lit≤, lt-ltb, ltb-true, leb-true, nat_lt, ◌==◌, Option, Some, None}
use Rattle.std.specs.Prelude.{IsTrue, nat_le, slice_range, slice_index, unwrap_or, if◌then◌else◌}
use Rattle.std.specs.Int.{w16, w32, from_be_bytes}
use Rattle.std.specs.List.{list_all}
use Rattle.std.specs.Str.{bytes_eq}
use Rattle.std.specs.Cmp.Derive.{both_true}
use Rattle.std.proofs.lemmas.Bool.{and_parts}
use Rattle.std.proofs.lemmas.List.{length-take-le, length-drop}
use Rattle.dns_name.specs.Names.{name_wire, is_label, is_name}
use Rattle.dns_name.specs.Octets.{◌>>=◌, octets_at, u16_at, u32_at}
use Rattle.dns_name.specs.Compression.{name_at}
use Rattle.dns_name.proofs.Elements.{split_fits}
use Rattle.dns_name.proofs.NameReading.{bound, guarded}
use Rattle.dns_name.proofs.NameBounds.{read_is_name, name_ends_within}
use Rattle.dns_rdata.specs.Records.{Field, Part, Record, data_wire, record_wire, field_wire, field_at, fields_at, rest_at, parts, is_one_name, are_strings}
use Rattle.dns_rdata.specs.Records.Field.{Octets, DomainName}
use Rattle.dns_rdata.specs.Records.Part.{Exactly, AtLeast, Strings, Named}
use Rattle.dns_rdata.specs.Heads.{RawRecord, raw_record_at, readable, record_in}
use Rattle.dns_rdata.proofs.ReadData.{data_allowed, octets_long}
use Rattle.zone_sync.specs.Forms.{HasForm}

-- ---- numbers of octets

held : {A : Type 0} (x y : A) → Some x ≡ Some y → x ≡ y
held x y e = ap (λ r. unwrap_or r x) e

abbrev AreOctets : List ℕ → Type 0
AreOctets xs = IsTrue (list_all (λ c. nat_lt c 256) xs)

part_fits : (k : ℕ) (m : List ℕ) (p : ℕ) (o : List ℕ × ℕ) → AreOctets m → octets_at k m p ≡ Some o → AreOctets o.0
part_fits k m p o fit found =
    let (room, is) = guarded (nat_le (p + k) (length m)) (slice_range m p (p + k), p + k) o found in
    subst (λ (x : List ℕ × ℕ). AreOctets x.0) is (split_fits (p + k - p) (drop p m) (split_fits p m fit).1).0

first_fits : (x : ℕ) (xs : List ℕ) → AreOctets (x ∷ xs) → (x < 256) × AreOctets xs
first_fits x xs fit = let (a, b) = and_parts (nat_lt x 256) (list_all (λ c. nat_lt c 256) xs) fit in (ltb-true x 256 a, b)

two_small : (xs : List ℕ) → length xs ≡ 2 → AreOctets xs → from_be_bytes w16 xs < 2 ^ 16
two_small [] e fit = absurd (cc e)
two_small (a ∷ []) e fit = absurd (cc e)
two_small (a ∷ b ∷ []) e fit =
    let (x, more) = first_fits a (b ∷ []) fit in
    let (y, none) = first_fits b [] more in
    omega (arith, x, y)
two_small (a ∷ b ∷ c ∷ xs) e fit = absurd (omega (arith, e))

four_small : (xs : List ℕ) → length xs ≡ 4 → AreOctets xs → from_be_bytes w32 xs < 2 ^ 32
four_small [] e fit = absurd (cc e)
four_small (a ∷ []) e fit = absurd (omega (arith, e))
four_small (a ∷ b ∷ []) e fit = absurd (omega (arith, e))
four_small (a ∷ b ∷ c ∷ []) e fit = absurd (omega (arith, e))
four_small (a ∷ b ∷ c ∷ d ∷ []) e fit =
    let (x, m1) = first_fits a (b ∷ c ∷ d ∷ []) fit in
    let (y, m2) = first_fits b (c ∷ d ∷ []) m1 in
    let (z, m3) = first_fits c (d ∷ []) m2 in
    let (u, none) = first_fits d [] m3 in
    omega (arith, x, y, z, u)
four_small (a ∷ b ∷ c ∷ d ∷ e ∷ xs) long fit = absurd (omega (arith, long))

u16_small : (m : List ℕ) (p : ℕ) (r : ℕ × ℕ) → AreOctets m → u16_at m p ≡ Some r → r.0 < 2 ^ 16
u16_small m p r fit e =
    let (o, found, same) = bound (octets_at 2 m p) (λ s. Some (from_be_bytes w16 s.0, s.1)) r e in
    subst (λ (x : ℕ × ℕ). x.0 < 2 ^ 16) (held _ r same) (two_small o.0 (octets_long 2 m p o found) (part_fits 2 m p o fit found))

u32_small : (m : List ℕ) (p : ℕ) (r : ℕ × ℕ) → AreOctets m → u32_at m p ≡ Some r → r.0 < 2 ^ 32
u32_small m p r fit e =
    let (o, found, same) = bound (octets_at 4 m p) (λ s. Some (from_be_bytes w32 s.0, s.1)) r e in
    subst (λ (x : ℕ × ℕ). x.0 < 2 ^ 32) (held _ r same) (four_small o.0 (octets_long 4 m p o found) (part_fits 4 m p o fit found))

-- ---- the length of data

-- the most octets of a piece, where at most so many are left
abbrev most : ℕ → Part → ℕ
most left (Exactly n) = n
most left (AtLeast n) = left
most left Strings = left
most left Named = 255

abbrev most_of : ℕ → List Part → ℕ
most_of left [] = 0
most_of left (part ∷ ps) = most left part + most_of left ps

-- a field that is read is no longer, and ends no earlier than it begins
abbrev Within : ℕ → Part → ℕ → Field × ℕ → Type 0
Within left part p r = (length (field_wire r.0) ≤ most left part) × (p ≤ r.1)

ends_at : (k : ℕ) (m : List ℕ) (p : ℕ) (o : List ℕ × ℕ) → octets_at k m p ≡ Some o → o.1 ≡ p + k
ends_at k m p o found = sym (ap (λ (x : List ℕ × ℕ). x.1) (guarded (nat_le (p + k) (length m)) (slice_range m p (p + k), p + k) o found).1)

rest_within : (m : List ℕ) (end p start : ℕ) (o : List ℕ × ℕ) → start ≤ p → rest_at m end p ≡ Some o → (length o.0 ≤ end - start) × (p ≤ o.1)
rest_within m end p start o after found = by (nat_le p end) refl found
  where
    by : (b : Bool) → nat_le p end ≡ b → (if b then octets_at (end - p) m p else None) ≡ Some o → (length o.0 ≤ end - start) × (p ≤ o.1)
    by true le e = let long = octets_long (end - p) m p o e in let ends = ends_at (end - p) m p o e in (omega (arith, long, after, leb-true p end le), omega (arith, ends))
    by false le e = absurd (cc e)

field_within : (part : Part) (m : List ℕ) (end p start : ℕ) (r : Field × ℕ) → start ≤ p → AreOctets m → field_at part m end p ≡ Some r → Within (end - start) part p r
field_within (Exactly n) m end p start r after fit e =
    let (o, found, same) = bound (octets_at n m p) (λ s. Some (Octets s.0, s.1)) r e in
    let long = octets_long n m p o found in
    let ends = ends_at n m p o found in
    subst (Within (end - start) (Exactly n) p) (held _ r same) (omega (arith, long), omega (arith, ends))
field_within (AtLeast n) m end p start r after fit e =
    let (o, found, same) = bound (rest_at m end p) (λ s. if nat_le n (length s.0) then Some (Octets s.0, s.1) else None) r e in
    let (enough, is) = guarded (nat_le n (length o.0)) (Octets o.0, o.1) r same in
    subst (Within (end - start) (AtLeast n) p) is (rest_within m end p start o after found)
field_within Strings m end p start r after fit e =
    let (o, found, same) = bound (rest_at m end p) (λ s. if are_strings s.0 then Some (Octets s.0, s.1) else None) r e in
    let (strings, is) = guarded (are_strings o.0) (Octets o.0, o.1) r same in
    subst (Within (end - start) Strings p) is (rest_within m end p start o after found)
field_within Named m end p start r after fit e =
    let (n, found, same) = bound (name_at m p) (λ s. Some (DomainName s.0, s.1)) r e in
    let short : length (name_wire n.0) < 256 = ltb-true (length (name_wire n.0)) 256 (and_parts (list_all is_label n.0) (nat_lt (length (name_wire n.0)) 256) (read_is_name m p n.0 n.1 found fit)).1 in
    let ends = (name_ends_within m p n.0 n.1 found).0 in
    subst (Within (end - start) Named p) (held _ r same) (omega (arith, short), omega (arith, ends))

data_within : (ps : List Part) (m : List ℕ) (end p start : ℕ) (fields : List Field) → start ≤ p → AreOctets m → fields_at ps m end p ≡ Some fields
    → length (data_wire fields) ≤ most_of (end - start) ps
unfolding fields_at
data_within [] m end p start fields after fit e =
    let (_, same) = guarded (p == end) [] fields e in
    subst (λ fs. length (data_wire fs) ≤ 0) same (lit≤ tt)
data_within (part ∷ ps) m end p start fields after fit e =
    let (f, first, more) = bound (field_at part m end p) (λ s. fields_at ps m end s.1 >>= λ fs. Some (s.0 ∷ fs)) fields e in
    let (fs, rest, same) = bound (fields_at ps m end f.1) (λ fs. Some (f.0 ∷ fs)) fields more in
    let (short, later) = field_within part m end p start f after fit first in
    let others = data_within ps m end f.1 start fs (omega (arith, after, later)) fit rest in
    subst (λ x. length (data_wire x) ≤ most (end - start) part + most_of (end - start) ps) (held (f.0 ∷ fs) fields same)
    (omega (arith, length-append (field_wire f.0) (data_wire fs), short, others))

-- the pieces of each type fit RDLENGTH
module _ (left : ℕ) (few : left < 2 ^ 16) where
  abbrev Fit : List Part → Type 0
  Fit ps = most_of left ps < 2 ^ 16

  either : (b : Bool) (x y : List Part) → Fit x → Fit y → Fit (if b then x else y)
  either true x y hx hy = hx
  either false x y hx hy = hy

  parts_fit : (rtype : ℕ) → Fit (parts rtype)
  parts_fit rtype =
      either (rtype == 1) _ _ (lit< tt)
      (either (is_one_name rtype) _ _ (lit< tt)
      (either (rtype == 6) _ _ (lit< tt)
      (either (rtype == 14) _ _ (lit< tt)
      (either (rtype == 15) _ _ (lit< tt)
      (either (rtype == 16) _ _ (omega (arith, few))
      (either (rtype == 28) _ _ (lit< tt)
      (either (rtype == 33) _ _ (lit< tt)
      (either (rtype == 43) (AtLeast 4 ∷ []) (AtLeast 0 ∷ []) (omega (arith, few)) (omega (arith, few))))))))))

-- ---- a record

-- what a record head says that is read
pub record IsHead (m : List ℕ) (raw : RawRecord) : Type 0 where
  pub owner : IsTrue (is_name raw.owner)
  pub rtype : raw.rtype < 2 ^ 16
  pub class : raw.class < 2 ^ 16
  pub ttl : raw.ttl < 2 ^ 32
  pub len : raw.rdlength < 2 ^ 16

head_read : (m : List ℕ) (p : ℕ) (r : RawRecord × ℕ) → AreOctets m → raw_record_at m p ≡ Some r → IsHead m r.0
unfolding raw_record_at
head_read m p r fit e =
    let (n, named, e1) = bound (name_at m p) _ r e in
    let (t, typed, e2) = bound (u16_at m n.1) _ r e1 in
    let (c, classed, e3) = bound (u16_at m t.1) _ r e2 in
    let (s, timed, e4) = bound (u32_at m c.1) _ r e3 in
    let (l, counted, e5) = bound (u16_at m s.1) _ r e4 in
    let (o, there, e6) = bound (octets_at l.0 m l.1) _ r e5 in
    subst (λ (x : RawRecord × ℕ). IsHead m x.0) (held _ r e6) (record {
      owner = read_is_name m p n.0 n.1 named fit;
      rtype = u16_small m n.1 t fit typed;
      class = u16_small m t.1 c fit classed;
      ttl = u32_small m c.1 s fit timed;
      len = u16_small m s.1 l fit counted;
    })

data_read : (m : List ℕ) (raw : RawRecord) (r : Record) → AreOctets m → IsHead m raw → readable m raw ≡ Some r → HasForm r
data_read m raw r fit h e =
    let (fields, found, same) = bound (fields_at (parts raw.rtype) m (raw.rdata + raw.rdlength) raw.rdata) (λ fs. Some (record { owner = raw.owner; rtype = raw.rtype; class = raw.class; ttl = raw.ttl; fields = fs })) r e in
    let within = data_within (parts raw.rtype) m (raw.rdata + raw.rdlength) raw.rdata raw.rdata fields (omega arith) fit found in
    let short : length (data_wire fields) < 2 ^ 16 = omega (arith, within, parts_fit (raw.rdata + raw.rdlength - raw.rdata) (omega (arith, h.len)) raw.rtype) in
    subst HasForm (held _ r same) (
      record { owner = h.owner; rtype = h.rtype; class = h.class; ttl = h.ttl; len = short },
      both_true (data_allowed (parts raw.rtype) m (raw.rdata + raw.rdlength) raw.rdata fields fit found) (lt-ltb (length (data_wire fields)) 65536 short),
    )

pub spelled_has_form : (octets : List ℕ) (r : Record) → AreOctets octets → record_in octets ≡ Some r → HasForm r
spelled_has_form octets r fit e =
    let (raw, found, rest) = bound (raw_record_at octets 0) (λ s. readable octets s.0 >>= λ x. if bytes_eq (record_wire x) octets then Some x else None) r e in
    let (x, read, last) = bound (readable octets raw.0) (λ x. if bytes_eq (record_wire x) octets then Some x else None) r rest in
    let (spelled, same) = guarded (bytes_eq (record_wire x) octets) x r last in
    subst HasForm same (data_read octets raw.0 x fit (head_read octets 0 raw fit found) read)
