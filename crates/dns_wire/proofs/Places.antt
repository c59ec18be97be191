-- Where items of a message end: after where they begin; so each section begins after the header.
use Rattle.std.proofs.Common.{◌≡◌, ℕ, zero, suc, ◌+◌, ◌<◌, ◌≤◌, Bool, true, false, List, [], ◌∷◌, length, refl, sym, ap, arith, nat_le, Option, Some, None}
use Rattle.std.specs.Prelude.{option_map, unwrap_or, slice_range, if◌then◌else◌}
use Rattle.std.specs.Int.{w16, w32, from_be_bytes}
use Rattle.dns_name.specs.Octets.{◌>>=◌, octets_at, u16_at, u32_at}
use Rattle.dns_name.specs.Names.{Name}
use Rattle.dns_name.specs.Compression.{name_at, NameAt}
use Rattle.dns_name.specs.Compression.NameAt.{at_root, at_label, at_pointer}
use Rattle.dns_name.proofs.NameReading.{name_at-NameAt}
use Rattle.dns_rdata.specs.Heads.{RawRecord, raw_record_at}
use Rattle.dns_wire.specs.Wire.{Question}
use Rattle.dns_wire.specs.Parse.{question_at, items_at, after_items, answers_start, authority_start, additional_start}

-- a mapped option that holds a value held one
mapped : {A B : Type 0} (f : A → B) (o : Option A) (y : B) → option_map f o ≡ Some y → (x : A) × (o ≡ Some x) × (f x ≡ y)
mapped f None y e = absurd (cc e)
mapped f (Some x) y e = (x, refl, ap (λ r. unwrap_or r (f x)) e)

-- a bind that holds a value
pub bound : {A B : Type 0} (o : Option A) (f : A → Option B) (y : B) → (o >>= f) ≡ Some y → (x : A) × (o ≡ Some x) × (f x ≡ Some y)
bound None f y e = absurd (cc e)
bound (Some x) f y e = (x, refl, e)

guarded : {A : Type 0} (b : Bool) (x y : A) → (if b then Some x else None) ≡ Some y → (b ≡ true) × (x ≡ y)
guarded true x y e = (refl, ap (λ r. unwrap_or r x) e)
guarded false x y e = absurd (cc e)

pub held : {A : Type 0} (x y : A) → Some x ≡ Some y → x ≡ y
held x y e = ap (λ r. unwrap_or r x) e

-- ---- names, numbers and octets

stands_ends : (m : List ℕ) {p : ℕ} {n : Name} {q k : ℕ} → NameAt m p n q k → p < q
stands_ends m (at_root p e) = omega arith
stands_ends m (at_label p q k label n e h) = omega (arith, stands_ends m h)
stands_ends m (at_pointer p q k offset n e h) = omega arith

name_at-ends : (m : List ℕ) (p : ℕ) (r : Name × ℕ) → name_at m p ≡ Some r → p < r.1
name_at-ends m p r e = stands_ends m (name_at-NameAt m p r.0 r.1 e).1

pub octets_at-ends : (k : ℕ) (m : List ℕ) (p : ℕ) (r : List ℕ × ℕ) → octets_at k m p ≡ Some r → r.1 ≡ p + k
octets_at-ends k m p r e =
    let (fits, same) = guarded (nat_le (p + k) (length m)) (slice_range m p (p + k), p + k) r e in
    sym (ap (λ (x : List ℕ × ℕ). x.1) same)

pub u16_at-ends : (m : List ℕ) (p : ℕ) (r : ℕ × ℕ) → u16_at m p ≡ Some r → r.1 ≡ p + 2
u16_at-ends m p r e =
    let (x, found, rest) = bound (octets_at 2 m p) (λ x. Some (from_be_bytes w16 x.0, x.1)) r e in
    let ends = octets_at-ends 2 m p x found in
    let same : x.1 ≡ r.1 = ap (λ (y : ℕ × ℕ). y.1) (held (from_be_bytes w16 x.0, x.1) r rest) in
    omega (arith, ends, same)

pub u32_at-ends : (m : List ℕ) (p : ℕ) (r : ℕ × ℕ) → u32_at m p ≡ Some r → r.1 ≡ p + 4
u32_at-ends m p r e =
    let (x, found, rest) = bound (octets_at 4 m p) (λ x. Some (from_be_bytes w32 x.0, x.1)) r e in
    let ends = octets_at-ends 4 m p x found in
    let same : x.1 ≡ r.1 = ap (λ (y : ℕ × ℕ). y.1) (held (from_be_bytes w32 x.0, x.1) r rest) in
    omega (arith, ends, same)

-- ---- questions and records

question_ends : (m : List ℕ) (p : ℕ) (r : Question × ℕ) → question_at m p ≡ Some r → p < r.1
unfolding question_at
question_ends m p r e =
    let (n, named, e1) = bound (name_at m p) _ r e in
    let (t, typed, e2) = bound (u16_at m n.1) _ r e1 in
    let (c, classed, e3) = bound (u16_at m t.1) _ r e2 in
    let a = name_at-ends m p n named in
    let b = u16_at-ends m n.1 t typed in
    let d = u16_at-ends m t.1 c classed in
    let same : c.1 ≡ r.1 = ap (λ (y : Question × ℕ). y.1) (held _ r e3) in
    omega (arith, a, b, d, same)

pub record_ends : (m : List ℕ) (p : ℕ) (r : RawRecord × ℕ) → raw_record_at m p ≡ Some r → p < r.1
unfolding raw_record_at
record_ends m p r e =
    let (n, named, e1) = bound (name_at m p) _ r e in
    let (t, typed, e2) = bound (u16_at m n.1) _ r e1 in
    let (c, classed, e3) = bound (u16_at m t.1) _ r e2 in
    let (l, timed, e4) = bound (u32_at m c.1) _ r e3 in
    let (d, counted, e5) = bound (u16_at m l.1) _ r e4 in
    let (o, filled, e6) = bound (octets_at d.0 m d.1) _ r e5 in
    let f1 = name_at-ends m p n named in
    let f2 = u16_at-ends m n.1 t typed in
    let f3 = u16_at-ends m t.1 c classed in
    let f4 = u32_at-ends m c.1 l timed in
    let f5 = u16_at-ends m l.1 d counted in
    let f6 = octets_at-ends d.0 m d.1 o filled in
    let same : o.1 ≡ r.1 = ap (λ (y : RawRecord × ℕ). y.1) (held _ r e6) in
    omega (arith, f1, f2, f3, f4, f5, f6, same)

items_end : {X : Type 0} (item : ℕ → Option (X × ℕ)) → ((p : ℕ) (r : X × ℕ) → item p ≡ Some r → p < r.1)
    → (n p : ℕ) (r : List X × ℕ) → items_at item n p ≡ Some r → p ≤ r.1
unfolding items_at
items_end {X = X} item h zero p r e =
    let same : p ≡ r.1 = ap (λ (y : List X × ℕ). y.1) (held ([], p) r e) in
    omega (arith, same)
items_end {X = X} item h (suc n) p r e =
    let (x, found, e1) = bound (item p) _ r e in
    let (y, rest, e2) = bound (items_at item n x.1) _ r e1 in
    let a = h p x found in
    let b = items_end item h n x.1 y rest in
    let same : y.1 ≡ r.1 = ap (λ (z : List X × ℕ). z.1) (held (x.0 ∷ y.0, y.1) r e2) in
    omega (arith, a, b, same)

after_end : {X : Type 0} (item : ℕ → Option (X × ℕ)) → ((p : ℕ) (r : X × ℕ) → item p ≡ Some r → p < r.1)
    → (n p q : ℕ) → after_items item n p ≡ Some q → p ≤ q
after_end {X = X} item h n p q e =
    let (r, found, same) = mapped (λ (r : List X × ℕ). r.1) (items_at item n p) q e in
    let a = items_end item h n p r found in
    omega (arith, a, same)

-- ---- the sections

pub answers_behind : (m : List ℕ) (p : ℕ) → answers_start m ≡ Some p → 12 ≤ p
answers_behind m p e = after_end (question_at m) (question_ends m) _ 12 p e

pub authority_behind : (m : List ℕ) (p : ℕ) → authority_start m ≡ Some p → 12 ≤ p
authority_behind m p e =
    let (a, answers, e1) = bound (answers_start m) _ p e in
    let f1 = answers_behind m a answers in
    let f2 = after_end (raw_record_at m) (record_ends m) _ a p e1 in
    omega (arith, f1, f2)

pub additional_behind : (m : List ℕ) (p : ℕ) → additional_start m ≡ Some p → 12 ≤ p
additional_behind m p e =
    let (u, authority, e1) = bound (authority_start m) _ p e in
    let f1 = authority_behind m u authority in
    let f2 = after_end (raw_record_at m) (record_ends m) _ u p e1 in
    omega (arith, f1, f2)
