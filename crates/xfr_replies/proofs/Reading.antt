-- What is read of differences, sets and places.
use Rattle.std.proofs.Common.{◌≡◌, ℕ, ◌<◌, ◌+◌, ◌==◌, zero, suc, Bool, true, false, not, All, List, [], ◌∷◌, ◌++◌, map, drop, length, refl, sym, ap, ◌∙◌, subst, true≢false, Bor, Option, Some, None, is_some, option_map, arith}
use Rattle.std.specs.Prelude.{slice_get, find}
use Rattle.std.specs.Ordering.{is_lt}
use Rattle.std.specs.Option.{option_map_or}
use Rattle.std.specs.Slice.{IsItemAt}
use Rattle.std.specs.List.{list_all, AllByRecursion}
use Rattle.std.specs.Cmp.{first_so, second_so}
use Rattle.std.proofs.lemmas.List.{length-map}
use Rattle.std.proofs.lemmas.List.Elements.{All-head, All-tail}
use Rattle.std.proofs.lemmas.Option.{slice_get_read}
use Rattle.dns_name.specs.Names.{Name, fold}
use Rattle.dns_numbers.specs.Codes.{type_soa}
use Rattle.dns_name.specs.Records.{Field, Record}
use Rattle.zone_model.specs.Version.{RecordSet, Key, Sets, Version, key_cmp, set_in}
use Rattle.zone_model.specs.Answer.{records_of, records_of_option}
use Rattle.zone_model.specs.Walk.{Stop}
use Rattle.zone_model.specs.Difference.{Difference}
use Rattle.zone_model.specs.Offer.{side_soas}
use Rattle.zone_values.specs.TypedSets.{TypedSet}
use Rattle.zone_values.specs.TypedEntries.{item_of, typed, typed_set_in, untyped}
use Rattle.zone_versions.proofs.TypedStops.{untyped_typed}
use Rattle.zone_diffs.specs.Kept.{holds_data}
use Rattle.xfr_replies.specs.Sides.{behind, sides_of, sides_from, without_removed}
use Rattle.xfr_replies.specs.Places.{place_records, set_in_part, text_behind, text_from}
use Rattle.xfr_replies.specs.Steps.{Heads, HeadsAt}
use Rattle.xfr_replies.specs.declared.place.Side.{Side}
use Rattle.xfr_replies.specs.declared.place.Place.{Place}
use Rattle.xfr_replies.proofs.Behind.{Sorted, IsRest, HasData, all_rest, behind_rest, each_behind, first_entry, first_key_of, found_first, heads_first}
use Rattle.xfr_replies.proofs.Texts.{with_data}
use Rattle.xfr_replies.proofs.Placing.{some_inj}

pub got : {A : Type 0} (xs : List A) (i : ℕ) (r : Bor A) → IsItemAt xs i (Some r) → slice_get xs i ≡ Some r.now
got xs i r h = slice_get_read xs (length xs) i r.now refl h.3.0 h.1

-- ---- the sides of a difference at an index

behind_index : {X Y : Type 0} (f : X → Y) (xs : List X) (n : ℕ) (x : X) → slice_get xs n ≡ Some x → drop n (map f xs) ≡ f x ∷ drop (suc n) (map f xs)
behind_index f [] n x e = absurd (true≢false (sym (ap is_some e)))
behind_index f (y ∷ xs) zero x e = ap (λ z. f z ∷ map f xs) (some_inj y x e)
behind_index f (y ∷ xs) (suc n) x e = behind_index f xs n x e

pub side_added : {X : Type 0} (f : X → Difference) (xs : List X) (side : Side) (x : X) (sets : Sets) → side.adds ≡ true → slice_get xs side.number ≡ Some x → sets ≡ (f x).added
    → Some sets ≡ slice_get (sides_from (map f xs) side) 0
side_added f xs side x sets adds e is =
    let at = behind_index f xs side.number x e in
    rw adds (ap Some is ∙ sym (ap (λ (l : List Difference). slice_get (without_removed l) 0) at))

pub side_removed : {X : Type 0} (f : X → Difference) (xs : List X) (side : Side) (x : X) (sets : Sets) → side.adds ≡ false → slice_get xs side.number ≡ Some x → sets ≡ (f x).removed
    → Some sets ≡ slice_get (sides_from (map f xs) side) 0
side_removed f xs side x sets removes e is =
    let at = behind_index f xs side.number x e in
    rw removes (ap Some is ∙ sym (ap (λ (l : List Difference). slice_get (sides_of l) 0) at))

-- the side behind one
past_removed : (ds : List Difference) → without_removed ds ≡ drop 1 (sides_of ds)
past_removed [] = refl
past_removed (d ∷ ds) = refl

past_added : (ds : List Difference) (n : ℕ) → sides_of (drop (suc n) ds) ≡ drop 1 (without_removed (drop n ds))
past_added [] zero = refl
past_added [] (suc n) = refl
past_added (d ∷ ds) zero = refl
past_added (d ∷ ds) (suc n) = past_added ds n

pub next_adds : (side : Side) → side.adds ≡ true → (ds : List Difference) → sides_of (drop (side.number + 1) ds) ≡ drop 1 (sides_from ds side)
next_adds side adds ds =
    let one : side.number + 1 ≡ suc side.number = omega arith in
    rw adds (ap (λ (n : ℕ). sides_of (drop n ds)) one ∙ past_added ds side.number)

pub next_removes : (side : Side) → side.adds ≡ false → (ds : List Difference) → without_removed (drop side.number ds) ≡ drop 1 (sides_from ds side)
next_removes side removes ds = rw removes (past_removed (drop side.number ds))

-- ---- sets of a difference have data

pub each_holds : (sets : Sets) → list_all holds_data sets ≡ true → AllByRecursion HasData sets
each_holds [] h = tt
each_holds (e ∷ es) h = (some_data e.1.items (first_so (holds_data e) (list_all holds_data es) h), each_holds es (second_so (holds_data e) (list_all holds_data es) h))
  where
    some_data : {X : Type 0} (xs : List X) → not (length xs == 0) ≡ true → 0 < length xs
    some_data [] h = absurd (true≢false (sym h))
    some_data (x ∷ xs) h = omega arith

-- ---- the SOA records of a side

found_length : (v : Version) (o : Option RecordSet) (s : RecordSet) → o ≡ Some s → length (option_map_or (records_of v.apex type_soa v.class) o []) ≡ length s.items
found_length v None s e = absurd (true≢false (sym (ap is_some e)))
found_length v (Some t) s e = length-map t.items _ ∙ ap (λ (u : RecordSet). length u.items) (some_inj t s e)

pub soa_count : (v : Version) (sets : Sets) (k : Key) (s : TypedSet) → k ≡ (fold v.apex, type_soa) → Some s ≡ typed_set_in sets k → length (side_soas v sets) ≡ length s.contents.items
soa_count v sets k s is found =
    let at : set_in sets k ≡ Some s.contents = sym (ap untyped found ∙ untyped_typed k.1 (set_in sets k)) in
    found_length v (set_in sets (fold v.apex, type_soa)) s.contents (ap (set_in sets) (sym is) ∙ at)

pub no_soas : (v : Version) (sets : Sets) (k : Key) → k ≡ (fold v.apex, type_soa) → ◌≡◌ {A = Option TypedSet} None (typed_set_in sets k) → length (side_soas v sets) ≡ 0
no_soas v sets k is none =
    let at : set_in sets k ≡ None = sym (ap untyped none ∙ untyped_typed k.1 (set_in sets k)) in
    ap (λ (o : Option RecordSet). length (option_map_or (records_of v.apex type_soa v.class) o [])) (ap (set_in sets) (sym is) ∙ at)

-- ---- the first key of some sets

abbrev pub item_key : Option (Key × TypedSet) → Option Key
item_key o = option_map (λ (e : Key × TypedSet). e.0) o

first_seen : (rest : Sets) → item_key (option_map item_of (first_entry rest)) ≡ first_key_of rest
first_seen [] = refl
first_seen (e ∷ es) = refl

first_item : (sets : Sets) → slice_get (map item_of sets) 0 ≡ option_map item_of (first_entry sets)
first_item [] = refl
first_item (e ∷ es) = refl

heads_item : (sets rest : Sets) (o : Option (Key × TypedSet)) → IsRest sets rest → AllByRecursion HasData rest → o ≡ option_map item_of (first_entry rest) → Heads sets rest (item_key o)
heads_item sets rest o r full is = subst (Heads sets rest) (sym (ap item_key is ∙ first_seen rest)) (heads_first sets rest r full)

pub heads_start : (sets : Sets) (o : Option (Key × TypedSet)) → Sorted sets → list_all holds_data sets ≡ true → o ≡ slice_get (map item_of sets) 0 → Heads sets sets (item_key o)
heads_start sets o s full is = heads_item sets sets o (all_rest sets s) (each_holds sets full) (is ∙ first_item sets)

pub heads_behind : (k : Key) (sets : Sets) (o : Option (Key × TypedSet)) → Sorted sets → list_all holds_data sets ≡ true → o ≡ option_map item_of (find (λ (e : Key × RecordSet). is_lt (key_cmp k e.0)) sets)
    → Heads sets (behind k sets) (item_key o)
heads_behind k sets o s full is =
    heads_item sets (behind k sets) o (behind_rest k sets s) (each_behind HasData k sets (each_holds sets full)) (is ∙ ap (option_map item_of) (found_first k sets))

-- ---- the record at a place

first_of_rest : {X : Type 0} (xs ys : List X) (n : ℕ) (x : X) → slice_get xs n ≡ Some x → slice_get (drop n xs ++ ys) 0 ≡ Some x
first_of_rest [] ys n x e = absurd (true≢false (sym (ap is_some e)))
first_of_rest (z ∷ xs) ys zero x e = e
first_of_rest (z ∷ xs) ys (suc n) x e = first_of_rest xs ys n x e

mapped_at : {X Y : Type 0} (f : X → Y) (xs : List X) (n : ℕ) (x : X) → slice_get xs n ≡ Some x → slice_get (map f xs) n ≡ Some (f x)
mapped_at f [] n x e = absurd (true≢false (sym (ap is_some e)))
mapped_at f (z ∷ xs) zero x e = ap (option_map f) e
mapped_at f (z ∷ xs) (suc n) x e = mapped_at f xs n x e

pub record_at : {X : Type 0} (f : X → List Field) (v : Version) (ds : List Difference) (p : Place) (s : TypedSet) (xs : List X) (x : X)
    → Some s ≡ option_map (typed p.rtype) (set_in_part v ds p.part p.owner p.rtype) → map f xs ≡ s.contents.items → slice_get xs p.index ≡ Some x
    → slice_get (text_from v ds p) 0 ≡ Some (with_data p.owner p.rtype v.class s.contents.ttl (f x))
record_at f v ds p s xs x found items at =
    let there : set_in_part v ds p.part p.owner p.rtype ≡ Some s.contents = sym (ap untyped found ∙ untyped_typed p.rtype (set_in_part v ds p.part p.owner p.rtype)) in
    let rs : List Record = map (with_data p.owner p.rtype v.class s.contents.ttl) (map f xs) in
    let is : place_records v ds p ≡ rs =
    ap (records_of_option p.owner p.rtype v.class) there ∙ ap (λ (ds : List (List Field)). map (with_data p.owner p.rtype v.class s.contents.ttl) ds) (sym items) in
    let after : List Record = text_behind v ds p.part p.owner p.rtype in
    ap (λ (l : List Record). slice_get (drop p.index l ++ after) 0) is
    ∙ first_of_rest rs after p.index (with_data p.owner p.rtype v.class s.contents.ttl (f x))
    (mapped_at (with_data p.owner p.rtype v.class s.contents.ttl) (map f xs) p.index (f x) (mapped_at f xs p.index x at))

pub found_rtype : (rtype : ℕ) (s : TypedSet) (o : Option RecordSet) → Some s ≡ option_map (typed rtype) o → s.rtype ≡ rtype
found_rtype rtype s None e = absurd (true≢false (ap is_some e))
found_rtype rtype s (Some t) e = ap (λ (u : TypedSet). u.rtype) (some_inj s (typed rtype t) e)

pub typed_item : {X : Type 0} (t : X → ℕ) (xs : List X) (n : ℕ) (x : X) (rtype : ℕ) → All (λ d. t d ≡ rtype) xs → slice_get xs n ≡ Some x → t x ≡ rtype
typed_item t [] n x rtype all e = absurd (true≢false (sym (ap is_some e)))
typed_item t (y ∷ xs) zero x rtype all e = ap t (sym (some_inj y x e)) ∙ All-head (λ d. t d ≡ rtype) y xs all
typed_item t (y ∷ xs) (suc n) x rtype all e = typed_item t xs n x rtype (All-tail (λ d. t d ≡ rtype) y xs all) e

-- ---- truth values

pub not_true : (b : Bool) → not b ≡ true → b ≡ false
not_true true h = sym h
not_true false h = refl

pub not_false : (b : Bool) → not b ≡ false → b ≡ true
not_false true h = refl
not_false false h = sym h

-- ---- a stop's key

pub heads_next : (v : Version) (s : Stop) (owner : Name) (rtype : ℕ) (o : Option Stop) → owner ≡ s.owner → rtype ≡ s.rtype → HeadsAt v (behind (fold owner, rtype) v.sets) o
    → HeadsAt v (behind (fold s.owner, s.rtype) v.sets) o
heads_next v s owner rtype o e f h = subst (λ (k : Key). HeadsAt v (behind k v.sets) o) (λ i. (fold (e i), f i)) h
