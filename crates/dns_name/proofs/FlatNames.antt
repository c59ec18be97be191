-- A name whose octets stand together in a message.
use Rattle.std.proofs.Common.{◌≡◌, ℕ, zero, suc, ◌+◌, ◌-◌, ◌<◌, true, List, [], ◌∷◌, ◌++◌, length, length-append, take, drop, refl, sym, ap, subst, ◌∙◌, arith, lt-ltb, Option, Some, add-one, add-zero}
use Rattle.std.specs.Prelude.{IsTrue, slice_get, flat_map}
use Rattle.std.specs.List.{list_all}
use Rattle.std.specs.Option.{option_map_or}
use Rattle.std.proofs.lemmas.List.{append_assoc, append-nil, take-append-drop, length-take-le, length-drop, drop-drop, take_at}
use Rattle.std.proofs.lemmas.List.Folds.{list_all-append}
use Rattle.std.proofs.lemmas.Grind.{flat_map-append}
use Rattle.dns_name.specs.Names.{Name, is_label, is_name, name_wire, label_wire}
use Rattle.dns_name.specs.Compression.{element_at, name_at}
use Rattle.dns_name.specs.Compression.Element.{Root, Label}
use Rattle.dns_name.proofs.NameBounds.{Seen, seen}
use Rattle.dns_name.proofs.NameBounds.Seen.{root, label}
use Rattle.dns_name.proofs.NameReading.{name_at-NameAt}
use Rattle.dns_name.proofs.NameWalking.{Stands, at_its_label, at_its_root, value_of}

-- ---- the octets at a place

octet_then : (m : List ℕ) (p c : ℕ) → slice_get m p ≡ Some c → drop p m ≡ c ∷ drop (suc p) m
octet_then [] p c e = absurd (cc e)
octet_then (x ∷ m) zero c e = cc e
octet_then (x ∷ m) (suc p) c e = octet_then m p c e

first_octet : (m : List ℕ) (p c : ℕ) → slice_get m p ≡ Some c → drop p m ≡ c ∷ drop (p + 1) m
first_octet m p c e = octet_then m p c e ∙ ap (λ k. c ∷ drop k m) (sym (add-one p))

root_seen : (m : List ℕ) (p : ℕ) → Seen m p Root → drop p m ≡ 0 ∷ drop (p + 1) m
root_seen m p (root at) = first_octet m p 0 at

label_seen : (m : List ℕ) (p : ℕ) (l : List ℕ) → Seen m p (Label l) → drop p m ≡ (length l ∷ l) ++ drop (p + 1 + length l) m
label_seen m p _ (label c at some short inside) =
    let n = p + 1 + c - (p + 1) in
    let behind = length-drop (p + 1) m in
    let long : length (take n (drop (p + 1) m)) ≡ n = length-take-le n (drop (p + 1) m) (omega (arith, behind, inside)) in
    let same : length (take n (drop (p + 1) m)) ≡ c = omega (arith, long) in
    let rest : drop n (drop (p + 1) m) ≡ drop (p + 1 + length (take n (drop (p + 1) m))) m = drop-drop n (p + 1) m ∙ ap (λ k. drop (p + 1 + k) m) (sym long) in
    first_octet m p c at
    ∙ (λ i. sym same i ∷ sym (take-append-drop n (drop (p + 1) m)) i)
    ∙ ap (λ t. length (take n (drop (p + 1) m)) ∷ (take n (drop (p + 1) m) ++ t)) rest

-- ---- one label after another

-- the octets from place pos to this place are the first labels of the name, and the rest of it stands here
pub record Together (m : List ℕ) (pos place : ℕ) (n : Name) : Type 0 where
  pub front : Name
  pub rest : Name
  pub labels : n ≡ front ++ rest
  pub stands : Stands m place rest
  pub good : list_all is_label front ≡ true
  pub octets : drop pos m ≡ flat_map label_wire front ++ drop place m
  pub after : place ≡ pos + length (flat_map label_wire front)

pub together_none : (m : List ℕ) (pos : ℕ) (n : Name) → Stands m pos n → Together m pos pos n
together_none m pos n s = record { front = []; rest = n; labels = refl; stands = s; good = refl; octets = refl; after = sym (add-zero pos) }

pub together_label : (m : List ℕ) (pos place next : ℕ) (n : Name) (l : List ℕ) → Together m pos place n → element_at m place ≡ Some (Label l) → is_label l ≡ true
    → next ≡ place + 1 + length l → Together m pos next n
together_label m pos place next n l t e good en =
    let b = at_its_label m place l t.rest t.stands e in
    let lone = flat_map-append label_wire t.front (l ∷ []) in
    let wire : flat_map label_wire (t.front ++ l ∷ []) ≡ flat_map label_wire t.front ++ length l ∷ l
    = lone ∙ ap (λ w. flat_map label_wire t.front ++ w) (append-nil (label_wire l)) in
    let long = length-append (flat_map label_wire t.front) (length l ∷ l) in
    let size = ap length wire in
    let here : Together m pos (place + 1 + length l) n = record {
      front = t.front ++ l ∷ [];
      rest = b.rest;
      labels = t.labels ∙ ap (λ r. t.front ++ r) b.labels ∙ sym (append_assoc t.front (l ∷ []) b.rest);
      stands = b.stands;
      good = list_all-append is_label t.front (l ∷ []) ∙ rw (t.good, good) refl;
      octets = t.octets ∙ ap (λ r. flat_map label_wire t.front ++ r) (label_seen m place l (seen m place (Label l) e))
          ∙ sym (append_assoc (flat_map label_wire t.front) (length l ∷ l) (drop (place + 1 + length l) m))
          ∙ ap (λ w. w ++ drop (place + 1 + length l) m) (sym wire);
      after = omega (arith, t.after, long, size);
    } in
    subst (λ q. Together m pos q n) (sym en) here

-- the octets are the wire form of the name
pub record Spells (octets : List ℕ) (n : Name) : Type 0 where
  pub wire : octets ≡ name_wire n
  pub name : IsTrue (is_name n)

-- a name that stands in a message is short enough
standing_short : (m : List ℕ) (p : ℕ) (n : Name) → Stands m p n → length (name_wire n) < 256
standing_short m p n s =
    let (r, found) = value_of (name_at m p) s.some in
    let same : r.0 ≡ n = ap (λ (o : Option (Name × ℕ)). option_map_or (λ x. x.0) o []) (sym found) ∙ s.labels in
    let (k, grammar, few, short) = name_at-NameAt m p r.0 r.1 found in
    subst (λ x. length (name_wire x) < 256) same short

-- the root label ends the name
pub together_root : (m : List ℕ) (pos place : ℕ) (n : Name) → Stands m pos n → Together m pos place n → element_at m place ≡ Some Root
    → Spells (take (place + 1 - pos) (drop pos m)) n
together_root m pos place n s t e =
    let none = at_its_root m place t.rest t.stands e in
    let front = t.labels ∙ ap (λ r. t.front ++ r) none ∙ append-nil t.front in
    let whole = t.octets ∙ ap (λ r. flat_map label_wire t.front ++ r) (root_seen m place (seen m place Root e))
    ∙ sym (append_assoc (flat_map label_wire t.front) (0 ∷ []) (drop (place + 1) m)) in
    let long = length-append (flat_map label_wire t.front) (0 ∷ []) in
    let good : list_all is_label n ≡ true = ap (list_all is_label) front ∙ t.good in
    record {
      wire = ap (take (place + 1 - pos)) whole
          ∙ take_at (name_wire t.front) (drop (place + 1) m) (place + 1 - pos) (omega (arith, long, t.after))
          ∙ ap name_wire (sym front);
      name = rw (good, lt-ltb (length (name_wire n)) 256 (standing_short m pos n s)) refl;
    }
