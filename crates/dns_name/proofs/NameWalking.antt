-- A name in a message, one element after another.
use Rattle.std.proofs.Common.{◌≡◌, ℕ, ◌+◌, ◌<◌, true, List, [], ◌∷◌, length, length-append, refl, sym, ap, subst, ◌∙◌, arith, Option, Some, None}
use Rattle.std.specs.Prelude.{IsTrue, is_some}
use Rattle.std.specs.Option.{option_map_or}
use Rattle.dns_name.specs.Names.{Name, is_name, name_wire}
use Rattle.dns_name.specs.Compression.{element_at, name_at, labels_at, NameAt}
use Rattle.dns_name.specs.Compression.Element.{Root, Label, Pointer}
use Rattle.dns_name.specs.Compression.NameAt.{at_root, at_label, at_pointer}
use Rattle.dns_name.proofs.NameReading.{name_at-NameAt, NameAt-name_at}
use Rattle.dns_name.proofs.WireForms.{first_wire}
use Rattle.dns_name.proofs.WholeNames.{whole_name}

-- a name stands at place p, and these are its labels
pub record Stands (m : List ℕ) (p : ℕ) (n : Name) : Type 0 where
  pub some : IsTrue (is_some (name_at m p))
  pub labels : labels_at m p ≡ n

pub value_of : {A : Type 0} (o : Option A) → IsTrue (is_some o) → (x : A) × (o ≡ Some x)
value_of None h = absurd (cc h)
value_of (Some x) h = (x, refl)

read_stands : (m : List ℕ) (p : ℕ) (n : Name) (q : ℕ) → name_at m p ≡ Some (n, q) → Stands m p n
read_stands m p n q e = record { some = rw e refl; labels = rw e refl }

spelled_stands : (m : List ℕ) (p : ℕ) (n : Name) (q k : ℕ) → NameAt m p n q k → k < 256 → length (name_wire n) < 256 → Stands m p n
spelled_stands m p n q k s few short = read_stands m p n q (NameAt-name_at m p n q k s few short)

-- the grammar of what stands
record Spelt (m : List ℕ) (p : ℕ) (n : Name) : Type 0 where
  after : ℕ
  pointers : ℕ
  grammar : NameAt m p n after pointers
  few : pointers < 256
  short : length (name_wire n) < 256

spelt : (m : List ℕ) (p : ℕ) (n : Name) → Stands m p n → Spelt m p n
spelt m p n s =
    let (r, found) = value_of (name_at m p) s.some in
    let same : r.0 ≡ n = ap (λ (o : Option (Name × ℕ)). option_map_or (λ x. x.0) o []) (sym found) ∙ s.labels in
    let (k, grammar, few, short) = name_at-NameAt m p r.0 r.1 found in
    subst (λ x. Spelt m p x) same (record { after = r.1; pointers = k; grammar = grammar; few = few; short = short })

-- ---- by the first element

by_pointer : (m : List ℕ) {p : ℕ} {n : Name} {q k : ℕ} → NameAt m p n q k → (offset : ℕ) → element_at m p ≡ Some (Pointer offset)
    → k < 256 → length (name_wire n) < 256 → Stands m offset n
by_pointer m (at_root p e) offset h few short = absurd (cc (e, h))
by_pointer m (at_label p q k label n e rest) offset h few short = absurd (cc (e, h))
by_pointer m (at_pointer p q k to n e rest) offset h few short =
    let same : to ≡ offset = cc (e, h) in
    subst (λ x. Stands m x n) same (spelled_stands m to n q k rest (omega (arith, few)) short)

pub at_its_pointer : (m : List ℕ) (p offset : ℕ) (n : Name) → Stands m p n → element_at m p ≡ Some (Pointer offset) → Stands m offset n
at_its_pointer m p offset n s h = let t = spelt m p n s in by_pointer m t.grammar offset h t.few t.short

-- a name that begins with this label, and the name after it
pub record Begins (m : List ℕ) (place : ℕ) (label : List ℕ) (n : Name) : Type 0 where
  pub rest : Name
  pub labels : n ≡ label ∷ rest
  pub stands : Stands m place rest

by_label : (m : List ℕ) {p : ℕ} {n : Name} {q k : ℕ} → NameAt m p n q k → (label : List ℕ) → element_at m p ≡ Some (Label label)
    → k < 256 → length (name_wire n) < 256 → Begins m (p + 1 + length label) label n
by_label m (at_root p e) label h few short = absurd (cc (e, h))
by_label m (at_label p q k l n e rest) label h few short =
    let same : l ≡ label = cc (e, h) in
    let wire = ap length (first_wire l n) in
    let both = length-append l (name_wire n) in
    subst (λ x. Begins m (p + 1 + length x) x (l ∷ n)) same
    (record { rest = n; labels = refl; stands = spelled_stands m (p + 1 + length l) n q k rest few (omega (arith, short, wire, both)) })
by_label m (at_pointer p q k to n e rest) label h few short = absurd (cc (e, h))

pub at_its_label : (m : List ℕ) (p : ℕ) (label : List ℕ) (n : Name) → Stands m p n → element_at m p ≡ Some (Label label) → Begins m (p + 1 + length label) label n
at_its_label m p label n s h = let t = spelt m p n s in by_label m t.grammar label h t.few t.short

by_root : (m : List ℕ) {p : ℕ} {n : Name} {q k : ℕ} → NameAt m p n q k → element_at m p ≡ Some Root → n ≡ []
by_root m (at_root p e) h = refl
by_root m (at_label p q k l n e rest) h = absurd (cc (e, h))
by_root m (at_pointer p q k to n e rest) h = absurd (cc (e, h))

pub at_its_root : (m : List ℕ) (p : ℕ) (n : Name) → Stands m p n → element_at m p ≡ Some Root → n ≡ []
at_its_root m p n s h = by_root m (spelt m p n s).grammar h

by_none : (m : List ℕ) {p : ℕ} {n : Name} {q k : ℕ} → NameAt m p n q k → element_at m p ≡ None → ⊥
by_none m (at_root p e) h = cc (e, h)
by_none m (at_label p q k l n e rest) h = cc (e, h)
by_none m (at_pointer p q k to n e rest) h = cc (e, h)

pub at_no_element : (m : List ℕ) (p : ℕ) (n : Name) → Stands m p n → element_at m p ≡ None → ⊥
at_no_element m p n s h = by_none m (spelt m p n s).grammar h

-- a name that fills the octets stands at their start
pub whole_stands : (octets : List ℕ) (n : Name) → is_name n ≡ true → name_wire n ≡ octets → Stands octets 0 n
whole_stands octets n h e = read_stands octets 0 n (0 + length (name_wire n)) (whole_name octets n h e)
