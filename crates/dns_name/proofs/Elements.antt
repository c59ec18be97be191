-- The element of a name at a place, by its first octet.
use Rattle.std.proofs.Common.{◌≡◌, ℕ, ◌+◌, ◌-◌, ◌*◌, ◌<◌, ◌≤◌, List, [], ◌∷◌, length, get_or, take, drop, refl, sym, ap, ◌∙◌, true, arith, lt-ltb, nat_lt, Some, None}
use Rattle.std.specs.Prelude.{slice_get, zero, suc, option_and_then, cond, false}
use Rattle.std.specs.List.{list_all}
use Rattle.std.proofs.lemmas.Bool.{and_parts, le-ltb, ne_eqb}
use Rattle.std.proofs.lemmas.Option.{slice_get_past}
use Rattle.std.proofs.lemmas.List.{take-append-drop, length-take-le, length-drop}
use Rattle.std.proofs.lemmas.List.Folds.{list_all-append}
use Rattle.dns_name.specs.Names.{is_label}
use Rattle.dns_name.specs.Compression.{element_at, pointer_to}
use Rattle.dns_name.specs.Compression.Element.{Pointer}

get_within : (m : List ℕ) (p : ℕ) → p < length m → slice_get m p ≡ Some (get_or m p 0)
get_within [] p h = absurd (omega (arith, h))
get_within (x ∷ m) zero h = refl
get_within (x ∷ m) (suc p) h = get_within m p (omega (arith, h))

pub element_reserved : (m : List ℕ) (p : ℕ) → p < length m → 64 ≤ get_or m p 0 → get_or m p 0 < 192 → element_at m p ≡ None
element_reserved m p h low high =
    let c = get_or m p 0 in
    rw (get_within m p h, ne_eqb c 0 (λ z. omega (arith, z, low)), le-ltb c 64 low, lt-ltb c 192 high) refl

pub element_cut : (m : List ℕ) (p : ℕ) → p < length m → length m - p < 2 → 64 ≤ get_or m p 0 → element_at m p ≡ None
element_cut m p h short low =
    let c = get_or m p 0 in
    let past = slice_get_past m (p + 1) (omega (arith, short)) in
    rw (get_within m p h, ne_eqb c 0 (λ z. omega (arith, z, low)), le-ltb c 64 low)
    (elim (nat_lt c 192) as (λ b. cond b None (option_and_then (λ d. pointer_to p ((c - 192) * 256 + d)) (slice_get m (p + 1))) ≡ None) [ true ↦ refl | false ↦ rw past refl ])

pub element_pointer : (m : List ℕ) (p : ℕ) → p + 1 < length m → 192 ≤ get_or m p 0 → (get_or m p 0 - 192) * 256 + get_or m (p + 1) 0 < p
    → element_at m p ≡ Some (Pointer ((get_or m p 0 - 192) * 256 + get_or m (p + 1) 0))
element_pointer m p h low back =
    let c = get_or m p 0 in
    rw (get_within m p (omega arith), ne_eqb c 0 (λ z. omega (arith, z, low)), le-ltb c 64 (omega arith), le-ltb c 192 low, get_within m (p + 1) h, lt-ltb _ _ back) refl

pub element_ahead : (m : List ℕ) (p : ℕ) → p + 1 < length m → 192 ≤ get_or m p 0 → p ≤ (get_or m p 0 - 192) * 256 + get_or m (p + 1) 0
    → element_at m p ≡ None
element_ahead m p h low ahead =
    let c = get_or m p 0 in
    rw (get_within m p (omega arith), ne_eqb c 0 (λ z. omega (arith, z, low)), le-ltb c 64 (omega arith), le-ltb c 192 low, get_within m (p + 1) h, le-ltb _ _ ahead) refl

-- octets of a message fit, and so do those of a part of it
pub octets_fit : (m : List ℕ) → ((k : ℕ) → get_or m k 0 < 256) → list_all (λ c. nat_lt c 256) m ≡ true
octets_fit [] h = refl
octets_fit (c ∷ m) h = rw (lt-ltb c 256 (h 0), octets_fit m (λ k. h (suc k))) refl

pub split_fits : (i : ℕ) (m : List ℕ) → list_all (λ c. nat_lt c 256) m ≡ true
    → (list_all (λ c. nat_lt c 256) (take i m) ≡ true) × (list_all (λ c. nat_lt c 256) (drop i m) ≡ true)
split_fits i m h =
    let whole = ap (list_all (λ c. nat_lt c 256)) (take-append-drop i m) ∙ h in
    and_parts _ _ (sym (list_all-append (λ c. nat_lt c 256) (take i m) (drop i m)) ∙ whole)

-- the octets after a length octet are a label
pub label_within : (m : List ℕ) (p a b c : ℕ) → ((k : ℕ) → get_or m k 0 < 256) → c < 64 → (c ≡ 0 → ⊥) → p + c < length m → a ≡ p + 1 → b ≡ c
    → (p + length (take b (drop a m)) < length m) × (is_label (take b (drop a m)) ≡ true)
label_within m p a b c fit short some inside ea eb =
    let l = take b (drop a m) in
    let behind = length-drop a m in
    let long : length l ≡ c = length-take-le b (drop a m) (omega (arith, behind, ea, eb, inside)) ∙ eb in
    let fits = (split_fits b (drop a m) (split_fits a m (octets_fit m fit)).1).0 in
    (omega (arith, long, inside), rw (lt-ltb 0 (length l) (omega (arith, long, some)), lt-ltb (length l) 64 (omega (arith, long, short)), fits) refl)
