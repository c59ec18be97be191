-- Names in messages: what stands at a place, where it ends, and that octets after the message change nothing.
use Rattle.std.proofs.Common.{◌≡◌, ℕ, zero, suc, ◌+◌, ◌-◌, ◌*◌, ◌<◌, ◌≤◌, Bool, true, false, List, [], ◌∷◌, ◌++◌, length, length-append, take, drop, refl, ap, subst, ◌∙◌, arith, lt-ltb, ltb-true, ltb-false, eqb-true, nat_lt, ◌==◌, Option, Some, None, ◌⊎◌, inl, inr, ne_eqb}
use Rattle.std.specs.Prelude.{IsTrue, slice_get, slice_range, option_and_then, unwrap_or, if◌then◌else◌}
use Rattle.std.specs.List.{list_all}
use Rattle.std.proofs.lemmas.Bool.{le-ltb}
use Rattle.std.proofs.lemmas.Option.{slice_get_within}
use Rattle.std.proofs.lemmas.List.{take-append-le, drop-append-le, length-take-le, length-drop}
use Rattle.dns_name.specs.Names.{Name, is_label, is_name, name_wire}
use Rattle.dns_name.specs.Compression.{Element, element_at, element_from, label_at, pointer_to, name_at, NameAt}
use Rattle.dns_name.specs.Compression.Element.{Root, Label, Pointer}
use Rattle.dns_name.specs.Compression.NameAt.{at_root, at_label, at_pointer}
use Rattle.dns_name.proofs.Elements.{split_fits}
use Rattle.dns_name.proofs.NameReading.{guarded, name_at-NameAt, NameAt-name_at}

-- the element at a place, by its octets
pub data Seen (m : List ℕ) (p : ℕ) : Element → Type 0 where
  root : slice_get m p ≡ Some 0 → Seen m p Root
  label : (c : ℕ) → slice_get m p ≡ Some c → 0 < c → c < 64 → p + c < length m → Seen m p (Label (slice_range m (p + 1) (p + 1 + c)))
  pointer : (c d : ℕ) → slice_get m p ≡ Some c → 192 ≤ c → slice_get m (p + 1) ≡ Some d → (c - 192) * 256 + d < p
      → Seen m p (Pointer ((c - 192) * 256 + d))

chosen : {A : Type 0} (b : Bool) (x y r : A) → (if b then x else y) ≡ r → ((b ≡ true) × (x ≡ r)) ⊎ ((b ≡ false) × (y ≡ r))
chosen true x y r e = inl (refl, e)
chosen false x y r e = inr (refl, e)

after_some : {A B : Type 0} (f : A → Option B) (o : Option A) (y : B) → option_and_then f o ≡ Some y → (x : A) × (o ≡ Some x) × (f x ≡ Some y)
after_some f None y e = absurd (cc e)
after_some f (Some x) y e = (x, refl, e)

some_octets : (c : ℕ) → (c == 0) ≡ false → 0 < c
some_octets zero h = absurd (cc h)
some_octets (suc c) h = omega arith

seen_from : (m : List ℕ) (p c : ℕ) (e : Element) → slice_get m p ≡ Some c → element_from m p c ≡ Some e → Seen m p e
seen_from m p c e at h =
    elim (chosen (c == 0) (Some Root) _ (Some e) h) [
      | inl z ↦ subst (Seen m p) (ap (λ r. unwrap_or r Root) z.1) (root (at ∙ ap (λ x. Some x) (eqb-true c 0 z.0)))
      | inr z ↦
          elim (chosen (nat_lt c 64) (label_at m p c) _ (Some e) z.1) [
            | inl r ↦
                let (inside, same) = guarded (nat_lt (p + c) (length m)) (Label (slice_range m (p + 1) (p + 1 + c))) e r.1 in
                subst (Seen m p) same (label c at (some_octets c z.0) (ltb-true _ _ r.0) (ltb-true _ _ inside))
            | inr r ↦
                elim (chosen (nat_lt c 192) None _ (Some e) r.1) [
                  | inl s ↦ absurd (cc s.1)
                  | inr s ↦
                      let (d, next, to) = after_some (λ d. pointer_to p ((c - 192) * 256 + d)) (slice_get m (p + 1)) e s.1 in
                      let (back, same) = guarded (nat_lt ((c - 192) * 256 + d) p) (Pointer ((c - 192) * 256 + d)) e to in
                      subst (Seen m p) same (pointer c d at (ltb-false _ _ s.0) next (ltb-true _ _ back))
                ]
          ]
    ]

pub seen : (m : List ℕ) (p : ℕ) (e : Element) → element_at m p ≡ Some e → Seen m p e
seen m p e h = let (c, at, from) = after_some (element_from m p) (slice_get m p) e h in seen_from m p c e at from

-- ---- where a name ends

past_root : (m : List ℕ) (p : ℕ) → Seen m p Root → p < length m
past_root m p (root at) = slice_get_within m p 0 at

past_pointer : (m : List ℕ) (p offset : ℕ) → Seen m p (Pointer offset) → p + 1 < length m
past_pointer m p _ (pointer c d at high next back) = slice_get_within m (p + 1) d next

pub ends_within : (m : List ℕ) {p : ℕ} {n : Name} {q k : ℕ} → NameAt m p n q k → (p < q) × (q ≤ length m)
ends_within m (at_root p e) = let inside = past_root m p (seen m p Root e) in (omega arith, omega (arith, inside))
ends_within m (at_label p q k l n e rest) = let behind = ends_within m rest in (omega (arith, behind.0), behind.1)
ends_within m (at_pointer p q k to n e rest) = let inside = past_pointer m p to (seen m p (Pointer to) e) in (omega arith, omega (arith, inside))

pub name_ends_within : (m : List ℕ) (p : ℕ) (n : Name) (q : ℕ) → name_at m p ≡ Some (n, q) → (p < q) × (q ≤ length m)
name_ends_within m p n q e = let (k, grammar, few, short) = name_at-NameAt m p n q e in ends_within m grammar

-- ---- octets after the message

get_before : (m more : List ℕ) (p c : ℕ) → slice_get m p ≡ Some c → slice_get (m ++ more) p ≡ Some c
get_before [] more p c e = absurd (cc e)
get_before (x ∷ m) more zero c e = e
get_before (x ∷ m) more (suc p) c e = get_before m more p c e

part_before : (m more : List ℕ) (a b : ℕ) → a ≤ length m → b ≤ length m → slice_range (m ++ more) a b ≡ slice_range m a b
part_before m more a b ha hb =
    let left = length-drop a m in
    ap (take (b - a)) (drop-append-le a m more ha) ∙ take-append-le (b - a) (drop a m) more (omega (arith, left, ha, hb))

stays_seen : (m more : List ℕ) (p : ℕ) (e : Element) → Seen m p e → element_at (m ++ more) p ≡ Some e
stays_seen m more p _ (root at) = rw (get_before m more p 0 at) refl
stays_seen m more p _ (label c at some short inside) =
    let long = length-append m more in
    let same = part_before m more (p + 1) (p + 1 + c) (omega (arith, inside)) (omega (arith, inside)) in
    rw (get_before m more p c at, ne_eqb c 0 (λ z. omega (arith, z, some)), lt-ltb c 64 short, lt-ltb (p + c) (length (m ++ more)) (omega (arith, long, inside)), same) refl
stays_seen m more p _ (pointer c d at high next back) =
    rw (get_before m more p c at, ne_eqb c 0 (λ z. omega (arith, z, high)), le-ltb c 64 (omega (arith, high)), le-ltb c 192 high, get_before m more (p + 1) d next, lt-ltb _ _ back) refl

pub stays : (m more : List ℕ) {p : ℕ} {n : Name} {q k : ℕ} → NameAt m p n q k → NameAt (m ++ more) p n q k
stays m more (at_root p e) = at_root p (stays_seen m more p Root (seen m p Root e))
stays m more (at_label p q k l n e rest) = at_label p q k l n (stays_seen m more p (Label l) (seen m p (Label l) e)) (stays m more rest)
stays m more (at_pointer p q k to n e rest) = at_pointer p q k to n (stays_seen m more p (Pointer to) (seen m p (Pointer to) e)) (stays m more rest)

pub name_stays : (m more : List ℕ) (p : ℕ) (n : Name) (q : ℕ) → name_at m p ≡ Some (n, q) → name_at (m ++ more) p ≡ Some (n, q)
name_stays m more p n q e =
    let (k, grammar, few, short) = name_at-NameAt m p n q e in
    NameAt-name_at (m ++ more) p n q k (stays m more grammar) few short

-- ---- limits

seen_label : (m : List ℕ) (p : ℕ) (l : List ℕ) → list_all (λ c. nat_lt c 256) m ≡ true → Seen m p (Label l) → is_label l ≡ true
seen_label m p _ fit (label c at some short inside) =
    let l = slice_range m (p + 1) (p + 1 + c) in
    let behind = length-drop (p + 1) m in
    let n = p + 1 + c - (p + 1) in
    let long : length l ≡ n = length-take-le n (drop (p + 1) m) (omega (arith, behind, inside)) in
    let fits = (split_fits n (drop (p + 1) m) (split_fits (p + 1) m fit).1).0 in
    rw (lt-ltb 0 (length l) (omega (arith, long, some)), lt-ltb (length l) 64 (omega (arith, long, short)), fits) refl

labels_fit : (m : List ℕ) {p : ℕ} {n : Name} {q k : ℕ} → NameAt m p n q k → list_all (λ c. nat_lt c 256) m ≡ true → list_all is_label n ≡ true
labels_fit m (at_root p e) fit = refl
labels_fit m (at_label p q k l n e rest) fit = rw (seen_label m p l fit (seen m p (Label l) e), labels_fit m rest fit) refl
labels_fit m (at_pointer p q k to n e rest) fit = labels_fit m rest fit

pub read_is_name : (m : List ℕ) (p : ℕ) (n : Name) (q : ℕ) → name_at m p ≡ Some (n, q) → IsTrue (list_all (λ c. nat_lt c 256) m) → IsTrue (is_name n)
read_is_name m p n q e fit =
    let (k, grammar, few, short) = name_at-NameAt m p n q e in
    rw (labels_fit m grammar fit, lt-ltb (length (name_wire n)) 256 short) refl
