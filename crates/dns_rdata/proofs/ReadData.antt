-- Data that are read have the pieces of their type.
use Rattle.std.proofs.Common.{◌≡◌, ℕ, ◌+◌, ◌-◌, ◌≤◌, true, List, [], ◌∷◌, length, drop, refl, ap, subst, arith, nat_lt, ◌==◌, eq-eqb, leb-true, Some, None}
use Rattle.std.specs.Prelude.{IsTrue, nat_le, slice_range, unwrap_or, if◌then◌else◌}
use Rattle.std.specs.List.{list_all}
use Rattle.std.specs.Cmp.Lexicographic.{pointwise}
use Rattle.std.proofs.lemmas.List.{length-take-le, length-drop}
use Rattle.dns_name.specs.Octets.{◌>>=◌, octets_at}
use Rattle.dns_name.specs.Compression.{name_at}
use Rattle.dns_name.proofs.NameReading.{bound, guarded}
use Rattle.dns_name.proofs.NameBounds.{read_is_name}
use Rattle.dns_name.specs.Records.{Field, Part, part_allows, rest_at, field_at, fields_at, are_strings}
use Rattle.dns_name.specs.Records.Field.{Octets, DomainName}
use Rattle.dns_name.specs.Records.Part.{Exactly, AtLeast, Strings, Named}

inside : {A : Type 0} (x y : A) → Some x ≡ Some y → x ≡ y
inside x y e = ap (λ r. unwrap_or r x) e

part_long : (m : List ℕ) (a b : ℕ) → a ≤ b → b ≤ length m → length (slice_range m a b) ≡ b - a
part_long m a b le within = let left = length-drop a m in length-take-le (b - a) (drop a m) (omega (arith, left, le, within))

-- octets that are read are there
pub octets_long : (k : ℕ) (m : List ℕ) (p : ℕ) (o : List ℕ × ℕ) → octets_at k m p ≡ Some o → length o.0 ≡ k
octets_long k m p o found =
    let (room, is) = guarded (nat_le (p + k) (length m)) (slice_range m p (p + k), p + k) o found in
    let long = part_long m p (p + k) (omega arith) (leb-true _ _ room) in
    subst (λ x. length x.0 ≡ k) is (omega (arith, long))

field_allowed : (part : Part) (m : List ℕ) (end p : ℕ) (r : Field × ℕ) → list_all (λ c. nat_lt c 256) m ≡ true
    → field_at part m end p ≡ Some r → part_allows part r.0 ≡ true
field_allowed (Exactly n) m end p r fit e =
    let (o, found, same) = bound (octets_at n m p) (λ s. Some (Octets s.0, s.1)) r e in
    let Allows : (Field × ℕ) → Type 0 = λ x. part_allows (Exactly n) x.0 ≡ true in
    subst Allows (inside _ r same) (eq-eqb (length o.0) n (octets_long n m p o found))
field_allowed (AtLeast n) m end p r fit e =
    let (o, found, same) = bound (rest_at m end p) (λ s. if nat_le n (length s.0) then Some (Octets s.0, s.1) else None) r e in
    let (enough, is) = guarded (nat_le n (length o.0)) (Octets o.0, o.1) r same in
    let Allows : (Field × ℕ) → Type 0 = λ x. part_allows (AtLeast n) x.0 ≡ true in
    subst Allows is enough
field_allowed Strings m end p r fit e =
    let (o, found, same) = bound (rest_at m end p) (λ s. if are_strings s.0 then Some (Octets s.0, s.1) else None) r e in
    let (strings, is) = guarded (are_strings o.0) (Octets o.0, o.1) r same in
    let Allows : (Field × ℕ) → Type 0 = λ x. part_allows Strings x.0 ≡ true in
    subst Allows is strings
field_allowed Named m end p r fit e =
    let (n, found, same) = bound (name_at m p) (λ s. Some (DomainName s.0, s.1)) r e in
    let Allows : (Field × ℕ) → Type 0 = λ x. part_allows Named x.0 ≡ true in
    subst Allows (inside _ r same) (read_is_name m p n.0 n.1 found fit)

pub data_allowed : (ps : List Part) (m : List ℕ) (end p : ℕ) (fields : List Field) → IsTrue (list_all (λ c. nat_lt c 256) m)
    → fields_at ps m end p ≡ Some fields → IsTrue (pointwise part_allows ps fields)
unfolding fields_at
data_allowed [] m end p fields fit e =
    let (_, same) = guarded (p == end) [] fields e in
    subst (λ fs. pointwise part_allows [] fs ≡ true) same refl
data_allowed (part ∷ ps) m end p fields fit e =
    let (f, first, more) = bound (field_at part m end p) (λ s. fields_at ps m end s.1 >>= λ fs. Some (s.0 ∷ fs)) fields e in
    let (fs, rest, same) = bound (fields_at ps m end f.1) (λ fs. Some (f.0 ∷ fs)) fields more in
    let allowed = field_allowed part m end p f fit first in
    let others = data_allowed ps m end f.1 fs fit rest in
    subst (λ x. pointwise part_allows (part ∷ ps) x ≡ true) (inside (f.0 ∷ fs) fields same) (rw (allowed, others) refl)
