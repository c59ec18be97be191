-- Reading a name piece by piece: what was read so far, and what is still to be read.
use Rattle.std.proofs.Common.{◌≡◌, ℕ, suc, ◌+◌, ◌-◌, ◌<◌, ◌≤◌, List, [], ◌∷◌, ◌++◌, length, length-append, refl, sym, ap, subst, ◌∙◌, true, false, arith, lt-ltb, nat_lt, ◌&&◌, Option, Some, None, Result, Ok, Err, OnErr, ◌==◌, add-zero}
use Rattle.std.specs.Prelude.{IsTrue, flat_map, option_map, if◌then◌else◌}
use Rattle.std.specs.List.{list_all}
use Rattle.std.specs.Option.{option_map_or}
use Rattle.std.proofs.lemmas.Bool.{le-ltb, ne_eqb}
use Rattle.std.proofs.lemmas.List.{append_assoc, append-nil}
use Rattle.std.proofs.lemmas.List.Folds.{list_all-append}
use Rattle.std.proofs.lemmas.Grind.{flat_map-append}
use Rattle.dns_name.specs.Names.{Name, is_label, is_name, name_wire, label_wire}
use Rattle.dns_name.specs.Compression.{element_at, SpelledName, with_label, with_pointer, name_of, name_at, labels_at, within_limits}
use Rattle.dns_name.specs.Compression.Element.{Root, Label, Pointer}
use Rattle.dns_name.specs.Pieces.{IsWithin}
use Rattle.dns_name.specs.declared.parsed.Piece.{Piece}

-- labels, a number of pointers and the place after the first of them, before the rest of a name
abbrev pub joined : Name → ℕ → ℕ → SpelledName → SpelledName
joined labels k after s = record { labels = labels ++ s.labels; after = if k == 0 then s.after else after; pointers = s.pointers + k }

-- these octets are labels that were read from place pos on, and the name goes on at this place for so many elements at most
pub record HasRead (octets message : List ℕ) (pos pointers after left place : ℕ) : Type 0 where
  pub labels : Name
  pub wire : octets ≡ flat_map label_wire labels
  pub good : list_all is_label labels ≡ true
  pub reads : name_of 512 message pos ≡ option_map (joined labels pointers after) (name_of left message place)
  pub few : pointers < 256

joined_none : (a : ℕ) (o : Option SpelledName) → o ≡ option_map (joined [] 0 a) o
joined_none a None = refl
joined_none a (Some s) = λ i. Some (record { labels = s.labels; after = s.after; pointers = sym (add-zero s.pointers) i })

pub has_read_none : (message : List ℕ) (pos after : ℕ) → HasRead [] message pos 0 after 512 pos
has_read_none message pos after = record { labels = []; wire = refl; good = refl; reads = joined_none after (name_of 512 message pos); few = omega arith }

-- ---- one more piece

with_its_label : (labels : Name) (l : List ℕ) (k a : ℕ) (o : Option SpelledName)
    → option_map (joined labels k a) (option_map (with_label l) o) ≡ option_map (joined (labels ++ l ∷ []) k a) o
with_its_label labels l k a None = refl
with_its_label labels l k a (Some s) = λ i. Some (record { labels = sym (append_assoc labels (l ∷ []) s.labels) i; after = if k == 0 then s.after else a; pointers = s.pointers + k })

pub has_read_label : (octets message : List ℕ) (pos k a left next place : ℕ) (l : List ℕ) → HasRead octets message pos k a left place
    → left ≡ suc next → element_at message place ≡ Some (Label l) → is_label l ≡ true
    → HasRead (octets ++ length l ∷ l) message pos k a next (place + 1 + length l)
unfolding name_of
has_read_label octets message pos k a left next place l h el e good =
    let now : name_of left message place ≡ option_map (with_label l) (name_of next message (place + 1 + length l)) = rw (el, name_of, e) refl in
    let lone = flat_map-append label_wire h.labels (l ∷ []) in
    record {
      labels = h.labels ++ l ∷ [];
      wire = ap (λ o. o ++ length l ∷ l) h.wire ∙ sym (lone ∙ ap (λ t. flat_map label_wire h.labels ++ t) (append-nil (label_wire l)));
      good = list_all-append is_label h.labels (l ∷ []) ∙ rw (h.good, good) refl;
      reads = h.reads ∙ ap (option_map (joined h.labels k a)) now ∙ with_its_label h.labels l k a (name_of next message (place + 1 + length l));
      few = h.few;
    }

after_pointer : (k a p : ℕ) (r : ℕ) → (if k == 0 then p + 2 else a) ≡ (if k + 1 == 0 then r else (if k == 0 then p + 2 else a))
after_pointer k a p r = rw (ne_eqb (k + 1) 0 (λ z. omega (arith, z))) refl

with_its_pointer : (labels : Name) (k a p : ℕ) (o : Option SpelledName)
    → option_map (joined labels k a) (option_map (with_pointer p) o) ≡ option_map (joined labels (k + 1) (if k == 0 then p + 2 else a)) o
with_its_pointer labels k a p None = refl
with_its_pointer labels k a p (Some s) =
    let more : s.pointers + 1 + k ≡ s.pointers + (k + 1) = omega arith in
    λ i. Some (record { labels = labels ++ s.labels; after = after_pointer k a p s.after i; pointers = more i })

pub has_read_pointer : (octets message : List ℕ) (pos k a left next place offset : ℕ) → HasRead octets message pos k a left place
    → left ≡ suc next → element_at message place ≡ Some (Pointer offset) → k + 1 < 256
    → HasRead octets message pos (k + 1) (if k == 0 then place + 2 else a) next offset
unfolding name_of
has_read_pointer octets message pos k a left next place offset h el e few =
    let now : name_of left message place ≡ option_map (with_pointer place) (name_of next message offset) = rw (el, name_of, e) refl in
    record {
      labels = h.labels;
      wire = h.wire;
      good = h.good;
      reads = h.reads ∙ ap (option_map (joined h.labels k a)) now ∙ with_its_pointer h.labels k a place (name_of next message offset);
      few = few;
    }

pub has_read_same : (o n message : List ℕ) (pos k j a b left p q : ℕ) → HasRead o message pos k a left p → n ≡ o → j ≡ k → b ≡ a → q ≡ p
    → HasRead n message pos j b left q
has_read_same o n message pos k j a b left p q h eo ek ea ep =
    let ByPlace : ℕ → Type 0 = λ x. HasRead o message pos k a left x in
    let ByAfter : ℕ → Type 0 = λ x. HasRead o message pos k x left q in
    let ByPointers : ℕ → Type 0 = λ x. HasRead o message pos x b left q in
    let ByOctets : List ℕ → Type 0 = λ x. HasRead x message pos j b left q in
    subst ByOctets (sym eo) (subst ByPointers (sym ek) (subst ByAfter (sym ea) (subst ByPlace (sym ep) h)))

-- ---- steps of the loops that read

pub one_less : (step : ℕ) → step < 512 → 512 - step ≡ suc (512 - (step + 1))
one_less step h = omega (arith, h)

pub when_err : {T E P : Type 0} (r : Result T E) → P → OnErr r P
when_err (Ok x) p = tt
when_err (Err e) p = p

-- the place as the clauses of the piece have it
pub within : (m : List ℕ) (p : ℕ) (x y : Piece) → IsWithin m p x → x ≡ y → IsWithin m p y
within m p x y h e = subst (λ z. IsWithin m p z) e h

-- ---- the end

-- where no name goes on there is none
none_from : (message : List ℕ) (pos : ℕ) (f : SpelledName → SpelledName) (o : Option SpelledName) → name_of 512 message pos ≡ option_map f o
    → ((s : SpelledName) → within_limits (f s) ≡ false) → name_at message pos ≡ None
none_from message pos f None e h = rw e refl
none_from message pos f (Some s) e h = rw (e, h s) refl

none_when_none : (message : List ℕ) (pos : ℕ) (f : SpelledName → SpelledName) (o : Option SpelledName) → name_of 512 message pos ≡ option_map f o
    → o ≡ None → name_at message pos ≡ None
none_when_none message pos f o e n = rw (e, n) refl

pub none_at_element : (octets message : List ℕ) (pos k a left next place : ℕ) → HasRead octets message pos k a left place
    → left ≡ suc next → element_at message place ≡ None → name_at message pos ≡ None
unfolding name_of
none_at_element octets message pos k a left next place h el e =
    none_when_none message pos (joined h.labels k a) (name_of left message place) h.reads (rw (el, name_of, e) refl)

pub none_at_end : (octets message : List ℕ) (pos k a left place : ℕ) → HasRead octets message pos k a left place → left ≡ 0 → name_at message pos ≡ None
unfolding name_of
none_at_end octets message pos k a left place h el =
    none_when_none message pos (joined h.labels k a) (name_of left message place) h.reads (rw (el, name_of) refl)

too_many : (labels : Name) (k a : ℕ) (s : SpelledName) → 256 ≤ k → within_limits (joined labels k a s) ≡ false
too_many labels k a s h = rw (le-ltb (s.pointers + k) 256 (omega arith)) (elim (nat_lt (length (name_wire (labels ++ s.labels))) 256) as (λ b. (b && false) ≡ false) [ true ↦ refl | false ↦ refl ])

pub none_at_pointer : (octets message : List ℕ) (pos k a left next place offset : ℕ) → HasRead octets message pos k a left place
    → left ≡ suc next → element_at message place ≡ Some (Pointer offset) → 256 ≤ k + 1 → name_at message pos ≡ None
unfolding name_of
none_at_pointer octets message pos k a left next place offset h el e many =
    let now : name_of left message place ≡ option_map (with_pointer place) (name_of next message offset) = rw (el, name_of, e) refl in
    none_from message pos (joined h.labels (k + 1) (if k == 0 then place + 2 else a)) (name_of next message offset)
    (h.reads ∙ ap (option_map (joined h.labels k a)) now ∙ with_its_pointer h.labels k a place (name_of next message offset))
    (λ s. too_many h.labels (k + 1) (if k == 0 then place + 2 else a) s many)

-- the wire form of labels that go on
joined_wire : (a b : Name) → length (name_wire (a ++ b)) ≡ length (flat_map label_wire a) + length (name_wire b)
joined_wire a b =
    let whole = ap length (flat_map-append label_wire a b) in
    let parts = length-append (flat_map label_wire a) (flat_map label_wire b) in
    let end = length-append (flat_map label_wire (a ++ b)) (0 ∷ []) in
    let last = length-append (flat_map label_wire b) (0 ∷ []) in
    omega (arith, whole, parts, end, last)

too_long : (labels : Name) (k a : ℕ) (s : SpelledName) → 255 < length (flat_map label_wire labels) + length (name_wire s.labels) → within_limits (joined labels k a s) ≡ false
too_long labels k a s h = let wire = joined_wire labels s.labels in rw (le-ltb (length (name_wire (labels ++ s.labels))) 256 (omega (arith, wire, h))) refl

pub none_at_label : (octets message : List ℕ) (pos k a left next place : ℕ) (l : List ℕ) → HasRead octets message pos k a left place
    → left ≡ suc next → element_at message place ≡ Some (Label l) → is_label l ≡ true → 255 ≤ length octets + length l → name_at message pos ≡ None
none_at_label octets message pos k a left next place l h el e good long =
    let g = has_read_label octets message pos k a left next place l h el e good in
    let both = length-append octets (length l ∷ l) in
    let wire = ap length g.wire in
    none_from message pos (joined g.labels k a) (name_of next message (place + 1 + length l)) g.reads
    (λ s. let last = length-append (flat_map label_wire s.labels) (0 ∷ []) in too_long g.labels k a s (omega (arith, both, wire, last, long)))

-- what the root label ends
record Ends (octets message : List ℕ) (pos k a place : ℕ) : Type 0 where
  pub labels : Name
  pub wire : octets ++ 0 ∷ [] ≡ name_wire labels
  pub good : list_all is_label labels ≡ true
  pub reads : name_of 512 message pos ≡ Some (record { labels = labels; after = if k == 0 then place + 1 else a; pointers = k })

ends_at : (octets message : List ℕ) (pos k a left next place : ℕ) → HasRead octets message pos k a left place
    → left ≡ suc next → element_at message place ≡ Some Root → Ends octets message pos k a place
unfolding name_of
ends_at octets message pos k a left next place h el e =
    let now : name_of left message place ≡ Some (record { labels = []; after = place + 1; pointers = 0 }) = rw (el, name_of, e) refl in
    let none_more : 0 + k ≡ k = omega arith in
    record {
      labels = h.labels;
      wire = ap (λ o. o ++ 0 ∷ []) h.wire;
      good = h.good;
      reads = h.reads ∙ ap (option_map (joined h.labels k a)) now ∙ (λ i. Some (record { labels = append-nil h.labels i; after = if k == 0 then place + 1 else a; pointers = none_more i }));
    }

pub none_at_root : (octets message : List ℕ) (pos k a left next place : ℕ) → HasRead octets message pos k a left place
    → left ≡ suc next → element_at message place ≡ Some Root → 255 ≤ length octets → name_at message pos ≡ None
none_at_root octets message pos k a left next place h el e long =
    let g = ends_at octets message pos k a left next place h el e in
    let end = length-append octets (0 ∷ []) in
    let wire = ap length g.wire in
    rw (g.reads, le-ltb (length (name_wire g.labels)) 256 (omega (arith, end, wire, long))) refl

-- a name that was read to its end
pub record IsRead (octets message : List ℕ) (pos after : ℕ) : Type 0 where
  pub labels : Name
  pub wire : octets ≡ name_wire labels
  pub name : IsTrue (is_name labels)
  pub reads : name_at message pos ≡ Some (labels, after)

pub is_read : (octets all message : List ℕ) (pos k a left next place after : ℕ) → HasRead octets message pos k a left place
    → left ≡ suc next → element_at message place ≡ Some Root → length octets < 255 → all ≡ octets ++ 0 ∷ [] → after ≡ (if k == 0 then place + 1 else a)
    → IsRead all message pos after
is_read octets all message pos k a left next place after h el e short ea ee =
    let g = ends_at octets message pos k a left next place h el e in
    let end = length-append octets (0 ∷ []) in
    let wire = ap length g.wire in
    let fits = lt-ltb (length (name_wire g.labels)) 256 (omega (arith, end, wire, short)) in
    record {
      labels = g.labels;
      wire = ea ∙ g.wire;
      name = rw (g.good, fits) refl;
      reads = rw (g.reads, fits, lt-ltb k 256 h.few) (λ i. Some (g.labels, sym ee i));
    }

-- ---- octets that are counted and not kept

-- a name was read so far into so many octets, within the limit of a name
pub record HasCounted (len : ℕ) (message : List ℕ) (pos pointers after left place : ℕ) : Type 0 where
  pub octets : List ℕ
  pub read : HasRead octets message pos pointers after left place
  pub long : length octets ≡ len
  pub short : len < 256

pub has_counted_none : (message : List ℕ) (pos after : ℕ) → HasCounted 0 message pos 0 after 512 pos
has_counted_none message pos after = record { octets = []; read = has_read_none message pos after; long = refl; short = omega arith }

pub has_counted_same : (c d : ℕ) (message : List ℕ) (pos k j a b left p q : ℕ) → HasCounted c message pos k a left p → d ≡ c → j ≡ k → b ≡ a → q ≡ p
    → HasCounted d message pos j b left q
has_counted_same c d message pos k j a b left p q h ec ek ea ep =
    record {
      octets = h.octets;
      read = has_read_same h.octets h.octets message pos k j a b left p q h.read refl ek ea ep;
      long = h.long ∙ sym ec;
      short = omega (arith, ec, h.short);
    }

pub has_counted_label : (c : ℕ) (message : List ℕ) (pos k a left next place : ℕ) (l : List ℕ) → HasCounted c message pos k a left place
    → left ≡ suc next → element_at message place ≡ Some (Label l) → is_label l ≡ true → c + length l < 255
    → HasCounted (c + 1 + length l) message pos k a next (place + 1 + length l)
has_counted_label c message pos k a left next place l h el e good fits =
    let both = length-append h.octets (length l ∷ l) in
    record {
      octets = h.octets ++ length l ∷ l;
      read = has_read_label h.octets message pos k a left next place l h.read el e good;
      long = omega (arith, both, h.long);
      short = omega (arith, fits);
    }

pub has_counted_pointer : (c : ℕ) (message : List ℕ) (pos k a left next place offset : ℕ) → HasCounted c message pos k a left place
    → left ≡ suc next → element_at message place ≡ Some (Pointer offset) → k + 1 < 256
    → HasCounted c message pos (k + 1) (if k == 0 then place + 2 else a) next offset
has_counted_pointer c message pos k a left next place offset h el e few =
    record {
      octets = h.octets;
      read = has_read_pointer h.octets message pos k a left next place offset h.read el e few;
      long = h.long;
      short = h.short;
    }

-- the place after a name that was counted to its end
pub is_counted : (c : ℕ) (message : List ℕ) (pos k a left next place after : ℕ) → HasCounted c message pos k a left place
    → left ≡ suc next → element_at message place ≡ Some Root → c < 255 → after ≡ (if k == 0 then place + 1 else a)
    → name_at message pos ≡ Some (labels_at message pos, after)
is_counted c message pos k a left next place after h el e short ee =
    let r = is_read h.octets (h.octets ++ 0 ∷ []) message pos k a left next place after h.read el e (omega (arith, h.long, short)) refl ee in
    let labels : labels_at message pos ≡ r.labels = ap (λ (o : Option (Name × ℕ)). option_map_or (λ x. x.0) o []) r.reads in
    r.reads ∙ (λ i. Some (sym labels i, after))
