-- The text of changes spells the history that it was made of.
use Rattle.std.proofs.Common.{◌≡◌, ℕ, Bool, true, false, cond, ◌&&◌, ◌||◌, ◌==◌, nat_eq, not, if◌then◌else◌, List, [], ◌∷◌, ◌++◌, map, filter, flat_map, length, refl, sym, ap, ◌∙◌, subst, append_assoc, true≢false, is_eq, Option, Some, None, is_some, unwrap_or, Ok, Result}
use Rattle.std.specs.Option.{option_map_or}
use Rattle.std.specs.List.{AllByRecursion, cons_option, last_or, list_all, list_any}
use Rattle.std.specs.Cmp.{Equal-is, first_so, second_so, nat_eq_equiv}
use Rattle.std.specs.Cmp.Derive.{both_true}
use Rattle.std.specs.BTreeMap.{insert_entry}
use Rattle.dns_name.specs.Names.{Name, fold}
use Rattle.dns_name.specs.Records.{Field, Record, same_data}
use Rattle.dns_name.specs.Soa.{serial_of}
use Rattle.dns_numbers.specs.Codes.{type_soa}
use Rattle.zone_model.specs.Version.{RecordSet, Key, Sets, Version, IsValid, Same, key_cmp, set_in, set_at, first_or_none, apex_soa}
use Rattle.zone_model.specs.Answer.{records_of, apex_soa_record}
use Rattle.zone_model.specs.Walk.{shown_owner}
use Rattle.zone_model.specs.Edits.{Refusal, with_sets, set_soa, close}
use Rattle.zone_model.specs.Difference.{difference, without, zone_serial}
use Rattle.zone_model.specs.TransferText.{Ixfr, Text, Changes, Ending, Batch, batch_records, is_plain, is_batch, are_batches, is_text, read_text}
use Rattle.zone_model.specs.Offer.{Offer, IsHistory, successive, all_distinct, side_soas, side_records, is_sendable, difference_text, whole_text, changes_text, changes_or_whole}
use Rattle.zone_model.specs.Spells.{spell_changes, spell_text, spelling, apply_batch, version_then}
use Rattle.zone_model.specs.TransferLaws.{LeadsTo, IsSoaOf, batch_of, IsPublished, SpellsAll, ChangesSpell, ChangesIsText}
use Rattle.zone_model.proofs.OneReading.{only_this}
use Rattle.dns_name.specs.SameData.{same_data_equiv}
use Rattle.zone_model.proofs.Folded.{key_total, fold-fold, same_name-Decides}
use Rattle.zone_model.proofs.Ordered.{Alike, find_alike, past_head}
use Rattle.zone_model.proofs.Steps.{Good, set_of, unless_empty, found-insert, good-insert, not_true}
use Rattle.zone_model.proofs.Phases.{good_tail}
use Rattle.zone_model.proofs.Valid.{valid_good, OneSoa, one_soa}
use Rattle.zone_model.proofs.WholeText.{apex_soa_record-is}
use Rattle.zone_model.proofs.SameVersions.{SameSet, Like, like_from_same, same_from_like, close_like}
use Rattle.zone_model.proofs.Differences.{lack}
use Rattle.zone_model.proofs.DifferenceLaws.{in_turn}
use Rattle.zone_model.proofs.Serials.{other_data}

-- ---- one set of a difference

-- what one entry gives, as a test of what is left of it
abbrev rest_of : Key × RecordSet → List (List Field) → Bool → Option (Key × RecordSet)
rest_of e l b = if b then None else Some (e.0, set_of e.1.ttl l)

past_other : (e : Key × RecordSet) (l : List (List Field)) (b : Bool) (rest : Sets) (q : Key) → is_eq (key_cmp q e.0) ≡ false → set_in (cons_option (rest_of e l b) rest) q ≡ set_in rest q
past_other e l true rest q n = refl
past_other e l false rest q n = ap (λ b. cond b (Some (set_of e.1.ttl l)) (set_in rest q)) n

pub lookup-without_none : (es others : Sets) (q : Key) → set_in es q ≡ None → set_in (without es others) q ≡ None
lookup-without_none [] others q h = refl
lookup-without_none (e ∷ es) others q h = by (is_eq (key_cmp q e.0)) refl h (λ k. lookup-without_none es others q k)
  where
    by : (b : Bool) → is_eq (key_cmp q e.0) ≡ b → cond b (Some e.1) (set_in es q) ≡ None → (set_in es q ≡ None → set_in (without es others) q ≡ None) → set_in (without (e ∷ es) others) q ≡ None
    by true p k later = absurd (true≢false (ap is_some k))
    by false p k later = past_other e (lack (set_in others e.0) e.1) (length (lack (set_in others e.0) e.1) == 0) (without es others) q p ∙ later k

value_inside : (s r : RecordSet) → ◌≡◌ {A = Option RecordSet} (Some s) (Some r) → s ≡ r
value_inside s r e = ap (λ o. unwrap_or o s) e

pub lookup-without : (es others : Sets) (q : Key) (s : RecordSet) → Good es → set_in es q ≡ Some s → set_in (without es others) q ≡ unless_empty (set_of s.ttl (lack (set_in others q) s))
lookup-without [] others q s g h = absurd (true≢false (sym (ap is_some h)))
lookup-without (e ∷ es) others q s g h = by (is_eq (key_cmp q e.0)) refl h (λ k. lookup-without es others q s (good_tail e es g) k)
  where
    here : (b : Bool) (l : List (List Field)) → is_eq (key_cmp q e.0) ≡ true → set_in (without es others) q ≡ None → set_in (cons_option (rest_of e l b) (without es others)) q ≡ (if b then None else Some (set_of e.1.ttl l))
    here true l p n = n
    here false l p n = ap (λ b. cond b (Some (set_of e.1.ttl l)) (set_in (without es others) q)) p

    by : (b : Bool) → is_eq (key_cmp q e.0) ≡ b → cond b (Some e.1) (set_in es q) ≡ Some s → (set_in es q ≡ Some s → set_in (without es others) q ≡ unless_empty (set_of s.ttl (lack (set_in others q) s)))
        → set_in (without (e ∷ es) others) q ≡ unless_empty (set_of s.ttl (lack (set_in others q) s))
    by true p k later =
        let l : List (List Field) = lack (set_in others e.0) e.1 in
        here (length l == 0) l p (lookup-without_none es others q (past_head key_total q e es g.sorted p))
        ∙ ap (λ o. unless_empty (set_of e.1.ttl (lack o e.1))) (sym (find_alike key_total others q e.0 ((Equal-is (key_cmp q e.0)).0 p)))
        ∙ ap (λ (r : RecordSet). unless_empty (set_of r.ttl (lack (set_in others q) r))) (value_inside e.1 s k)
    by false p k later = past_other e (lack (set_in others e.0) e.1) (length (lack (set_in others e.0) e.1) == 0) (without es others) q p ∙ later k

-- ---- the SOA records of a difference

-- the SOA of a version as a text shows it whose last version is u
abbrev soa_from : Version → Option RecordSet → Record
soa_from u z = record { owner = u.apex; rtype = type_soa; class = u.class; ttl = option_map_or (λ (s : RecordSet). s.ttl) z 0; fields = unwrap_or (first_or_none (option_map_or (λ (s : RecordSet). s.items) z [])) [] }

abbrev pub soa_as : Version → Version → Record
soa_as u v = soa_from u (set_at v v.apex type_soa)

soa_as-is : (u v : Version) (o : OneSoa v) → soa_as u v ≡ record { owner = u.apex; rtype = type_soa; class = u.class; ttl = o.ttl; fields = o.fields }
soa_as-is u v o = ap (soa_from u) o.stands

is_soa_of : (u w : Version) → OneSoa w → IsSoaOf w (soa_as u w)
is_soa_of u w o = subst (λ z. z ≡ Some (set_of (soa_from u z).ttl ((soa_from u z).fields ∷ []))) (sym o.stands) refl

serial_as : (u v : Version) → zone_serial v ≡ serial_of (soa_as u v).fields
serial_as u v = by (apex_soa v)
  where
    by : (o : Option (List Field)) → option_map_or serial_of o 0 ≡ serial_of (unwrap_or o [])
    by None = refl
    by (Some d) = refl

-- data of two versions with different serials differ
differ_as : (u v w : Version) → (zone_serial v == zone_serial w) ≡ false → same_data (soa_as u v).fields (soa_as u w).fields ≡ false
differ_as u v w n = other_data (soa_as u v).fields (soa_as u w).fields (sym (λ i. serial_as u v i == serial_as u w i) ∙ n)

both_false : (a : Bool) → (a && false) ≡ false
both_false true = refl
both_false false = refl

one_lack : (t r : ℕ) (d x : List Field) → same_data d x ≡ false → lack (Some (set_of r (x ∷ []))) (set_of t (d ∷ [])) ≡ d ∷ []
one_lack t r d x n = ap (λ b. cond (not b) (d ∷ []) []) (ap (λ b. (r == t) && (b || false)) n ∙ both_false (r == t))

one_side : (u v w : Version) → IsValid v → OneSoa v → OneSoa w → fold u.apex ≡ fold v.apex → fold u.apex ≡ fold w.apex → same_data (soa_as u v).fields (soa_as u w).fields ≡ false
    → side_soas u (without v.sets w.sets) ≡ soa_as u v ∷ []
one_side u v w hv ov ow ev ew n =
    let k : Key = (fold u.apex, type_soa) in
    let old : RecordSet = set_of ov.ttl (ov.fields ∷ []) in
    let new : RecordSet = set_of ow.ttl (ow.fields ∷ []) in
    let at_v : set_in v.sets k ≡ Some old = ap (λ (a : Name). set_in v.sets (a, type_soa)) ev ∙ ov.stands in
    let at_w : set_in w.sets k ≡ Some new = ap (λ (a : Name). set_in w.sets (a, type_soa)) ew ∙ ow.stands in
    let other : same_data ov.fields ow.fields ≡ false = sym (λ i. same_data ((soa_as-is u v ov i).fields) ((soa_as-is u w ow i).fields)) ∙ n in
    ap (λ o. option_map_or (records_of u.apex type_soa u.class) o [])
    (lookup-without v.sets w.sets k old (valid_good v hv) at_v ∙ ap (λ o. unless_empty (set_of ov.ttl (lack o old))) at_w ∙ ap (λ l. unless_empty (set_of ov.ttl l)) (one_lack ov.ttl ow.ttl ov.fields ow.fields other))
    ∙ ap (λ r. r ∷ []) (sym (soa_as-is u v ov))

-- ---- the batches of a history

abbrev pub batches_of : Version → List Version → List Batch
batches_of u [] = []
batches_of u (v ∷ []) = []
batches_of u (v ∷ w ∷ more) = batch_of u (difference v w) (soa_as u v) (soa_as u w) ∷ batches_of u (w ∷ more)

near_of : (a : Name) (v : Version) → IsPublished a v → fold v.apex ≡ fold a
near_of a v p = (same_name-Decides v.apex a).0 p.same_apex

two_differ : (v w : Version) (more : List Version) → all_distinct (map zone_serial (v ∷ w ∷ more)) ≡ true → (zone_serial v == zone_serial w) ≡ false
two_differ v w more h = by (zone_serial v == zone_serial w) (not_true _ (first_so (not (list_any (nat_eq (zone_serial v)) (map zone_serial (w ∷ more)))) _ h))
  where
    by : (b : Bool) → (b || list_any (nat_eq (zone_serial v)) (map zone_serial more)) ≡ false → b ≡ false
    by true k = absurd (true≢false k)
    by false k = refl

later_distinct : (v : Version) (more : List Version) → all_distinct (map zone_serial (v ∷ more)) ≡ true → all_distinct (map zone_serial more) ≡ true
later_distinct v more h = second_so (not (list_any (nat_eq (zone_serial v)) (map zone_serial more))) _ h

turned : (v w : Version) → (zone_serial v == zone_serial w) ≡ false → (zone_serial w == zone_serial v) ≡ false
turned v w n = nat_eq_equiv.symm (zone_serial w) (zone_serial v) ∙ n

module _ (a : Name) (u : Version) (near : fold u.apex ≡ fold a) where
  side_old : (v w : Version) → IsPublished a v → IsPublished a w → (zone_serial v == zone_serial w) ≡ false → side_soas u (without v.sets w.sets) ≡ soa_as u v ∷ []
  side_old v w p q n = one_side u v w p.valid (one_soa v p.valid p.one_soa) (one_soa w q.valid q.one_soa) (near ∙ sym (near_of a v p)) (near ∙ sym (near_of a w q)) (differ_as u v w n)

  one_text : (v w : Version) → IsPublished a v → IsPublished a w → (zone_serial v == zone_serial w) ≡ false → difference_text u (difference v w) ≡ batch_records (batch_of u (difference v w) (soa_as u v) (soa_as u w))
  one_text v w p q n =
      (λ i. side_old v w p q n i ++ side_records u (without v.sets w.sets) ++ side_old w v q p (turned v w n) i ++ side_records u (without w.sets v.sets))
      ∙ ap (λ l. soa_as u v ∷ l) (append_assoc (side_records u (without v.sets w.sets)) (soa_as u w ∷ []) (side_records u (without w.sets v.sets)))

  all_texts : (v : Version) (more : List Version) → AllByRecursion (IsPublished a) (v ∷ more) → all_distinct (map zone_serial (v ∷ more)) ≡ true
      → flat_map (difference_text u) (successive (v ∷ more)) ≡ flat_map batch_records (batches_of u (v ∷ more))
  all_texts v [] p d = refl
  all_texts v (w ∷ more) p d = λ i. one_text v w p.0 p.1.0 (two_differ v w more d) i ++ all_texts w more p.1 (later_distinct v (w ∷ more) d) i

  one_sendable : (v w : Version) → IsPublished a v → IsPublished a w → (zone_serial v == zone_serial w) ≡ false → is_sendable u (difference v w) ≡ true
  one_sendable v w p q n = λ i. (length (side_old v w p q n i) == 1) && (length (side_old w v q p (turned v w n) i) == 1)

  all_sendable : (v : Version) (more : List Version) → AllByRecursion (IsPublished a) (v ∷ more) → all_distinct (map zone_serial (v ∷ more)) ≡ true → list_all (is_sendable u) (successive (v ∷ more)) ≡ true
  all_sendable v [] p d = refl
  all_sendable v (w ∷ more) p d = both_true (one_sendable v w p.0 p.1.0 (two_differ v w more d)) (all_sendable w more p.1 (later_distinct v (w ∷ more) d))

-- ---- the text

plain_filter : (rs : List Record) → list_all is_plain (filter is_plain rs) ≡ true
plain_filter [] = refl
plain_filter (r ∷ rs) = by (is_plain r) refl (plain_filter rs)
  where
    by : (b : Bool) → is_plain r ≡ b → list_all is_plain (filter is_plain rs) ≡ true → list_all is_plain (cond b (r ∷ filter is_plain rs) (filter is_plain rs)) ≡ true
    by true e k = both_true e k
    by false e k = k

plain_side : (u : Version) (sets : Sets) → list_all is_plain (side_records u sets) ≡ true
plain_side u sets = plain_filter (flat_map (λ (e : Key × RecordSet). records_of (shown_owner u e.0.0) e.0.1 u.class e.1) sets)

is_one_batch : (s : Record) (u v w : Version) → same_data s.fields (soa_as u v).fields ≡ false → is_batch s (batch_of u (difference v w) (soa_as u v) (soa_as u w)) ≡ true
is_one_batch s u v w n = both_true (both_true (both_true refl (ap not n)) (plain_side u (without v.sets w.sets))) (plain_side u (without w.sets v.sets))

add_batch : (s : Record) (b : Batch) (bs : List Batch) → is_batch s b ≡ true → is_some b.new ≡ true → are_batches s true bs ≡ true → are_batches s true (b ∷ bs) ≡ true
add_batch s b [] is new h = both_true is (ap (λ n. n || false) new)
add_batch s b (c ∷ bs) is new h = both_true (both_true is new) h

-- the serial of a version differs from that of the last one after it
last_differs : (n : ℕ) (w : Version) (more : List Version) (u : Version) → last_or (Some w) more ≡ Some u → list_any (nat_eq n) (map zone_serial (w ∷ more)) ≡ false → (n == zone_serial u) ≡ false
last_differs n w [] u e h = sym (ap (λ o. n == option_map_or zone_serial o 0) e) ∙ by (n == zone_serial w) h
  where
    by : (b : Bool) → (b || false) ≡ false → b ≡ false
    by true k = k
    by false k = k
last_differs n w (x ∷ more) u e h = last_differs n x more u e (by (n == zone_serial w) h)
  where
    by : (b : Bool) → (b || list_any (nat_eq n) (map zone_serial (x ∷ more))) ≡ false → list_any (nat_eq n) (map zone_serial (x ∷ more)) ≡ false
    by true k = absurd (true≢false k)
    by false k = k

all_batches : (u v : Version) (more : List Version) → last_or (Some v) more ≡ Some u → all_distinct (map zone_serial (v ∷ more)) ≡ true → are_batches (soa_as u u) true (batches_of u (v ∷ more)) ≡ true
all_batches u v [] e d = refl
all_batches u v (w ∷ more) e d =
    let n : (zone_serial v == zone_serial u) ≡ false = last_differs (zone_serial v) w more u e (not_true _ (first_so (not (list_any (nat_eq (zone_serial v)) (map zone_serial (w ∷ more)))) _ d)) in
    add_batch (soa_as u u) (batch_of u (difference v w) (soa_as u v) (soa_as u w)) (batches_of u (w ∷ more)) (is_one_batch (soa_as u u) u v w (differ_as u u v (turned v u n))) refl
    (all_batches u w more e (later_distinct v (w ∷ more) d))

pub last_published : (P : Version → Type 0) (v : Version) (more : List Version) (u : Version) → last_or (Some v) more ≡ Some u → AllByRecursion P (v ∷ more) → P u
last_published P v [] u e p = subst P (ap (λ o. unwrap_or o v) e) p.0
last_published P v (w ∷ more) u e p = last_published P w more u e p.1

abbrev changes_of : Version → List Version → Text
changes_of u history = Changes (soa_as u u) (batches_of u history) (Some (record { last = soa_as u u; rest = [] }))

changes_are_text : (u v : Version) (more : List Version) → last_or (Some v) more ≡ Some u → all_distinct (map zone_serial (v ∷ more)) ≡ true → is_text Ixfr (changes_of u (v ∷ more)) ≡ true
changes_are_text u v more e d = both_true (both_true refl (all_batches u v more e d)) (both_true refl (same_data_equiv.refl (soa_as u u).fields))

joined_text : (a : Name) (offer : Offer) (v : Version) (more : List Version) → IsHistory offer (v ∷ more) → AllByRecursion (IsPublished a) (v ∷ more)
    → changes_text offer.version offer.differences ≡ soa_as offer.version offer.version ∷ flat_map batch_records (batches_of offer.version (v ∷ more)) ++ soa_as offer.version offer.version ∷ []
joined_text a offer v more h p =
    let u : Version = offer.version in
    let pu : IsPublished a u = last_published (IsPublished a) v more u h.ends p in
    let ou : OneSoa u = one_soa u pu.valid pu.one_soa in
    let soa : apex_soa_record u ≡ soa_as u u ∷ [] = apex_soa_record-is u ou ∙ ap (λ r. r ∷ []) (sym (soa_as-is u u ou)) in
    let body : flat_map (difference_text u) offer.differences ≡ flat_map batch_records (batches_of u (v ∷ more)) = ap (flat_map (difference_text u)) h.tells ∙ all_texts a u (near_of a u pu) v more p h.distinct in
    λ i. soa i ++ body i ++ soa i

reads_changes : (u v : Version) (more : List Version) → last_or (Some v) more ≡ Some u → all_distinct (map zone_serial (v ∷ more)) ≡ true → read_text Ixfr (soa_as u u) (flat_map batch_records (batches_of u (v ∷ more)) ++ soa_as u u ∷ []) ≡ changes_of u (v ∷ more)
reads_changes u v more e d = only_this Ixfr (changes_of u (v ∷ more)) (changes_are_text u v more e d)

pub changes_is_text : ChangesIsText
changes_is_text offer a v w more h p =
    let u : Version = offer.version in
    let pu : IsPublished a u = last_published (IsPublished a) v (w ∷ more) u h.ends p in (
      record {
        soa = soa_as u u;
        batches = batches_of u (v ∷ w ∷ more);
        joined = joined_text a offer v (w ∷ more) h p;
        reads = reads_changes u v (w ∷ more) h.ends h.distinct;
        text = changes_are_text u v (w ∷ more) h.ends h.distinct;
      },
      ap (changes_or_whole u) h.tells ∙ ap (λ b. if b then changes_text u (successive (v ∷ w ∷ more)) else whole_text u) (all_sendable a u (near_of a u pu) v (w ∷ more) p h.distinct) ∙ ap (changes_text u) (sym h.tells),
    )

-- ---- what it spells

-- the last SOA of a text on a version that has it
same_last : (x u : Version) → IsValid u → OneSoa u → Like x u → Like (set_soa x (soa_as u u)) u
same_last x u h o l = record { near = l.near; good = good-insert x.sets soa_key soa_set (fold-fold x.apex) l.good; same = alike }
  where
    soa_key : Key
    soa_key = (fold x.apex, type_soa)

    soa_set : RecordSet
    soa_set = set_of (soa_as u u).ttl ((soa_as u u).fields ∷ [])

    alike : (q : Key) → Alike key_total SameSet (set_in (insert_entry key_cmp x.sets (fold x.apex, type_soa) (set_of (soa_as u u).ttl ((soa_as u u).fields ∷ []))) q) (set_in u.sets q)
    alike q = subst (λ z. Alike key_total SameSet z (set_in u.sets q)) (sym (found-insert x.sets (fold x.apex, type_soa) (set_of (soa_as u u).ttl ((soa_as u u).fields ∷ [])) q)) (by (is_eq (key_cmp q (fold x.apex, type_soa))) refl)
      where
        by : (b : Bool) → is_eq (key_cmp q (fold x.apex, type_soa)) ≡ b → Alike key_total SameSet (cond b (Some (set_of (soa_as u u).ttl ((soa_as u u).fields ∷ []))) (set_in x.sets q)) (set_in u.sets q)
        by true p =
            let there : set_in u.sets q ≡ Some (set_of (soa_as u u).ttl ((soa_as u u).fields ∷ []))
            = find_alike key_total u.sets q (fold x.apex, type_soa) ((Equal-is (key_cmp q (fold x.apex, type_soa))).0 p) ∙ ap (λ (n : Name). set_in u.sets (n, type_soa)) l.near ∙ is_soa_of u u o in
            subst (λ z. Alike key_total SameSet (Some (set_of (soa_as u u).ttl ((soa_as u u).fields ∷ []))) z) (sym there) (record { ttl = refl; items = λ d. refl })
        by false p = l.same q

spells_from : (a : Name) (u v : Version) (more : List Version) → last_or (Some v) more ≡ Some u → AllByRecursion (IsPublished a) (v ∷ more) → (x : Version) → Like x v
    → SpellsAll (spell_changes (batches_of u (v ∷ more)) (Some (record { last = soa_as u u; rest = [] })) (Ok x)) (v ∷ more)
spells_from a u v [] e p x l =
    let is : v ≡ u = ap (λ o. unwrap_or o v) e in
    let pu : IsPublished a u = subst (IsPublished a) is p.0 in
    let at_u : Like x u = subst (Like x) is l in
    let y : Version = set_soa x (soa_as u u) in
    let ly : Like y u = same_last x u pu.valid (one_soa u pu.valid pu.one_soa) at_u in
    let same : Same (close y) v = subst (λ z. Same z v) (sym (close_like y u pu.valid ly)) (subst (Same y) (sym is) (same_from_like y u pu.valid ly)) in
    record { same = both_true same refl; whole = refl }
spells_from a u v (w ∷ more) e p x l =
    let pv : IsPublished a v = p.0 in
    let pw : IsPublished a w = p.1.0 in
    let near : fold v.apex ≡ fold w.apex = near_of a v pv ∙ sym (near_of a w pw) in
    let ow : OneSoa w = one_soa w pw.valid pw.one_soa in
    let b : Batch = batch_of u (difference v w) (soa_as u v) (soa_as u w) in
    let end : Option Ending = Some (record { last = soa_as u u; rest = [] }) in
    let t : LeadsTo (apply_batch x b) x w = in_turn u v w x pv.valid pw.valid near l (one_soa v pv.valid pv.one_soa) ow (soa_as u w) (is_soa_of u w ow) (soa_as u v) in
    let next = spells_from a u w more e p.1 (with_sets x t.sets) (like_from_same (with_sets x t.sets) w pw.valid (l.near ∙ near) t.same) in
    let closed : close x ≡ x = close_like x v pv.valid l in
    let made : apply_batch (close x) b ≡ Ok (with_sets x t.sets) = ap (λ z. apply_batch z b) closed ∙ t.makes in
    let goal : Result Version Refusal → Type 0 = λ r. SpellsAll (version_then (close x) (spell_changes (batches_of u (w ∷ more)) end r)) (v ∷ w ∷ more) in
    subst goal (sym made) (record { same = both_true (subst (λ z. Same z v) (sym closed) (same_from_like x v pv.valid l)) next.same; whole = next.whole })

pub changes_spell : ChangesSpell
changes_spell offer v more base h p same =
    let u : Version = offer.version in
    let near : fold base.apex ≡ fold v.apex = sym (near_of base.apex v p.0) in
    subst (λ s. SpellsAll s (v ∷ more)) (sym (ap (λ l. spelling Ixfr l base) (joined_text base.apex offer v more h p) ∙ ap (spell_text base) (reads_changes u v more h.ends h.distinct)))
    (spells_from base.apex u v more h.ends p base (like_from_same base v p.0.valid near same))
