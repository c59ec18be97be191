-- What edits make of versions whose records have wire forms, and what is sent of them, has such records alone.
use Rattle.std.proofs.Common.{◌≡◌, ℕ, ◌^◌, ◌<◌, Bool, true, false, cond, not, ◌&&◌, ◌==◌, if◌then◌else◌, List, [], ◌∷◌, ◌++◌, length, map, min, filter, filter_map, flat_map, refl, ap, sym, subst, ◌∙◌, arith, lit<, Ordering, Less, Equal, Greater, is_eq, Option, Some, None}
use Rattle.std.specs.Prelude.{IsTrue, option_map, is_some, Result, Ok, Err, fold as fold_list}
use Rattle.std.specs.Option.{option_map_or}
use Rattle.std.specs.Result.{result_unwrap_or}
use Rattle.std.specs.List.{AllByRecursion, list_all, cons_option}
use Rattle.std.specs.Ordering.{match_ordering}
use Rattle.std.specs.BTreeMap.{insert_entry}
use Rattle.std.specs.Map.{remove_entry}
use Rattle.std.specs.Cmp.{Equal-is}
use Rattle.dns_name.specs.Names.{Name, fold, same_name, under, is_name}
use Rattle.dns_name.proofs.WireForms.{fold_is_name}
use Rattle.dns_numbers.specs.Codes.{type_soa}
use Rattle.dns_numbers.specs.Serial.{serial_upto}
use Rattle.dns_rdata.specs.Records.{Field, Record, same_data, is_data}
use Rattle.dns_wire.specs.Written.{IsRecord}
use Rattle.zone_model.specs.Version.{RecordSet, Key, Sets, Version, key_cmp, has_key, set_in, set_at, data_at}
use Rattle.zone_model.specs.Answer.{highest_cut, records_of, records_of_option, first_only, apex_soa_record}
use Rattle.zone_model.specs.Walk.{Stop, shown_owner, records_of_version, walk}
use Rattle.zone_model.specs.Edits.{Refusal, with_sets, remove_set, put_set, distinct, has_data, second_alias, add, delete, is_stray, close}
use Rattle.zone_model.specs.Classify.{ZoneFile, opened_with, opened, lowest_ttl}
use Rattle.zone_model.specs.Difference.{Difference, holds, entry_without, without, difference, diffable, zone_serial}
use Rattle.zone_model.specs.TransferText.{Mode, Axfr, Ixfr, is_plain}
use Rattle.zone_model.specs.Offer.{Offer, Provider, successive, after_serial, has_start, pushed, from_serial, difference_if, offer_of, after_push, side_soas, side_records, difference_text, is_apex_soa, is_sendable, whole_text, changes_text, changes_or_whole, text_of}
use Rattle.zone_model.proofs.Folded.{key_from_tie}
use Rattle.xfr_client.proofs.Requests.{data_short}
use Rattle.zone_sync.specs.Forms.{HasForm, HaveForms, IsSetOf, IsEntry, IsWritableStop, IsWritable}

-- ---- lists

pub all_append : {A : Type 0} (P : A → Type 0) (xs ys : List A) → AllByRecursion P xs → AllByRecursion P ys → AllByRecursion P (xs ++ ys)
all_append P [] ys a b = b
all_append P (x ∷ xs) ys a b = (a.0, all_append P xs ys a.1 b)

all_filter : {A : Type 0} (P : A → Type 0) (p : A → Bool) (xs : List A) → AllByRecursion P xs → AllByRecursion P (filter p xs)
all_filter P p [] a = tt
all_filter P p (x ∷ xs) a = by (p x) (all_filter P p xs a.1)
  where
    by : (b : Bool) → AllByRecursion P (filter p xs) → AllByRecursion P (cond b (x ∷ filter p xs) (filter p xs))
    by true later = (a.0, later)
    by false later = later

all_flat : {A B : Type 0} (P : A → Type 0) (Q : B → Type 0) (f : A → List B) (xs : List A) → ((x : A) → P x → AllByRecursion Q (f x)) → AllByRecursion P xs → AllByRecursion Q (flat_map f xs)
all_flat P Q f [] each a = tt
all_flat P Q f (x ∷ xs) each a = all_append Q (f x) (flat_map f xs) (each x a.0) (all_flat P Q f xs each a.1)

if_all : {A : Type 0} (P : A → Type 0) (b : Bool) (xs ys : List A) → AllByRecursion P xs → AllByRecursion P ys → AllByRecursion P (if b then xs else ys)
if_all P true xs ys a b = a
if_all P false xs ys a b = b

-- ---- sets

abbrev IsDataOf : ℕ → List Field → Type 0
IsDataOf rtype d = IsTrue (is_data rtype d)

distinct_each : (P : List Field → Type 0) (xs : List (List Field)) → AllByRecursion P xs → AllByRecursion P (distinct xs)
distinct_each P [] a = tt
distinct_each P (x ∷ xs) a = (a.0, all_filter P (λ y. not (same_data x y)) (distinct xs) (distinct_each P xs a.1))

-- what a look-up finds, if anything
abbrev FoundSet : ℕ → Option RecordSet → Type 0
FoundSet rtype None = Unit {0}
FoundSet rtype (Some s) = IsSetOf rtype s

found_set : (es : Sets) (k : Key) → AllByRecursion IsEntry es → FoundSet k.1 (set_in es k)
found_set [] k a = tt
found_set (e ∷ es) k a = by (is_eq (key_cmp k e.0)) refl (found_set es k a.1)
  where
    by : (b : Bool) → is_eq (key_cmp k e.0) ≡ b → FoundSet k.1 (set_in es k) → FoundSet k.1 (cond b (Some e.1) (set_in es k))
    by true p later = let tie = key_from_tie k e.0 ((Equal-is (key_cmp k e.0)).0 p) in subst (λ (t : ℕ). IsSetOf t e.1) (sym tie.1) a.0.contents
    by false p later = later

found_items : (rtype : ℕ) (o : Option RecordSet) → FoundSet rtype o → AllByRecursion (IsDataOf rtype) (option_map_or (λ (s : RecordSet). s.items) o [])
found_items rtype None h = tt
found_items rtype (Some s) h = h.each

insert_each : (es : Sets) (k : Key) (s : RecordSet) → IsEntry (k, s) → AllByRecursion IsEntry es → AllByRecursion IsEntry (insert_entry key_cmp es k s)
insert_each [] k s h a = (h, tt)
insert_each (e ∷ es) k s h a = by (key_cmp k e.0) refl (insert_each es k s h a.1)
  where
    by : (o : Ordering) → key_cmp k e.0 ≡ o → AllByRecursion IsEntry (insert_entry key_cmp es k s) → AllByRecursion IsEntry (match_ordering o ((k, s) ∷ e ∷ es) ((e.0, s) ∷ es) (e ∷ insert_entry key_cmp es k s))
    by Less p later = (h, a)
    by Equal p later = (record { owner = a.0.owner; rtype = a.0.rtype; contents = subst (λ (t : ℕ). IsSetOf t s) (key_from_tie k e.0 p).1 h.contents }, a.1)
    by Greater p later = (a.0, later)

remove_each : (test : Key → Bool) (es : Sets) → AllByRecursion IsEntry es → AllByRecursion IsEntry (remove_entry test es)
remove_each test [] a = tt
remove_each test (e ∷ es) a = by (test e.0) (remove_each test es a.1)
  where
    by : (b : Bool) → AllByRecursion IsEntry (remove_entry test es) → AllByRecursion IsEntry (cond b es (e ∷ remove_entry test es))
    by true later = a.1
    by false later = (a.0, later)

-- ---- edits

-- these sets in a version
with_each : (v : Version) (sets : Sets) → IsWritable v → AllByRecursion IsEntry sets → IsWritable (with_sets v sets)
with_each v sets h a = record { apex = h.apex; class = h.class; sets = a }

put_writable : (v : Version) (owner : Name) (rtype : ℕ) (s : RecordSet) → IsWritable v → IsTrue (is_name owner) → rtype < 2 ^ 16 → IsSetOf rtype s → IsWritable (put_set v owner rtype s)
put_writable v owner rtype s h named small set = by (length s.items == 0)
  where
    by : (b : Bool) → IsWritable (if b then remove_set v owner rtype else with_sets v (insert_entry key_cmp v.sets (fold owner, rtype) s))
    by true = with_each v _ h (remove_each (has_key (fold owner, rtype)) v.sets h.sets)
    by false = with_each v _ h (insert_each v.sets (fold owner, rtype) s (record { owner = fold_is_name owner named; rtype = small; contents = set }) h.sets)

pub close_writable : (v : Version) → IsWritable v → IsWritable (close v)
close_writable v h = with_each v _ h (all_filter IsEntry (λ e. not (is_stray v e)) v.sets h.sets)

min_small : (a b : ℕ) → b < 2 ^ 32 → min a b < 2 ^ 32
min_small a b small = omega (arith, small)

module _ (v : Version) (h : IsWritable v) (r : Record) (f : HasForm r) where
  -- the data of the record's set, and one more
  abbrev old : AllByRecursion (IsDataOf r.rtype) (data_at v r.owner r.rtype)
  old = found_items r.rtype (set_at v r.owner r.rtype) (found_set v.sets (fold r.owner, r.rtype) h.sets)

  put_record : (ttl : ℕ) (items : List (List Field)) → ttl < 2 ^ 32 → AllByRecursion (IsDataOf r.rtype) items → IsWritable (put_set v r.owner r.rtype (record { ttl = ttl; items = items }))
  put_record ttl items small each = put_writable v r.owner r.rtype (record { ttl = ttl; items = items }) h f.0.owner f.0.rtype (record { ttl = small; each = each })

  ttl_small : (o : Option RecordSet) → lowest_ttl r o < 2 ^ 32
  ttl_small None = f.0.ttl
  ttl_small (Some s) = min_small s.ttl r.ttl f.0.ttl

  pub opened_writable : IsWritable (opened_with v r)
  opened_writable = put_record _ _ (ttl_small (set_at v r.owner r.rtype)) (distinct_each (IsDataOf r.rtype) (data_at v r.owner r.rtype ++ r.fields ∷ []) (all_append (IsDataOf r.rtype) (data_at v r.owner r.rtype) (r.fields ∷ []) old (f.1, tt)))

  refused_or : (b : Bool) (e : Refusal) (next : Result Version Refusal) → IsWritable (result_unwrap_or next v) → IsWritable (result_unwrap_or (if b then Err e else next) v)
  refused_or true e next n = h
  refused_or false e next n = n

  pub added_writable : IsWritable (result_unwrap_or (add v r) v)
  added_writable = refused_or (not (under r.owner v.apex)) _ _ (refused_or (has_data v r) _ _ (refused_or (second_alias v r) _ _ (put_record _ _ f.0.ttl (all_append (IsDataOf r.rtype) (data_at v r.owner r.rtype) (r.fields ∷ []) old (f.1, tt)))))

  pub deleted_writable : IsWritable (result_unwrap_or (delete v r) v)
  deleted_writable = refused_or (not (under r.owner v.apex)) _ _ (refused_or (not (has_data v r)) _ _ (put_record _ _ f.0.ttl (all_filter (IsDataOf r.rtype) (λ d. not (same_data r.fields d)) (data_at v r.owner r.rtype) old)))

opened_from : (v : Version) (rs : List Record) → IsWritable v → HaveForms rs → IsWritable (fold_list opened_with v rs)
opened_from v [] h a = h
opened_from v (r ∷ more) h a = opened_from (opened_with v r) more (opened_writable v h r a.0) a.1

pub file_writable : (f : ZoneFile) → IsTrue (is_name f.apex) → f.class < 2 ^ 16 → HaveForms f.accepted → IsWritable (opened f)
file_writable f named small each =
    opened_from (record { apex = f.apex; class = f.class; sets = [] }) (filter (λ r. under r.owner f.apex) f.accepted) (record { apex = named; class = small; sets = tt })
    (all_filter HasForm (λ r. under r.owner f.apex) f.accepted each)

-- ---- differences

pub record IsWritableDifference (d : Difference) : Type 0 where
  pub removed : AllByRecursion IsEntry d.removed
  pub added : AllByRecursion IsEntry d.added

-- what is left of an entry
entry_kept : (others : Sets) (e : Key × RecordSet) (left : List (List Field)) → IsEntry e → AllByRecursion (IsDataOf e.0.1) left
    → (b : Bool) (rest : Sets) → AllByRecursion IsEntry rest → AllByRecursion IsEntry (cons_option (if b then None else Some (e.0, record { ttl = e.1.ttl; items = left })) rest)
entry_kept others e left h a true rest later = later
entry_kept others e left h a false rest later = (record { owner = h.owner; rtype = h.rtype; contents = record { ttl = h.contents.ttl; each = a } }, later)

without_each : (ones others : Sets) → AllByRecursion IsEntry ones → AllByRecursion IsEntry (without ones others)
without_each [] others a = tt
without_each (e ∷ ones) others a =
    let left = filter (λ d. not (holds others e.0 e.1.ttl d)) e.1.items in
    entry_kept others e left a.0 (all_filter (IsDataOf e.0.1) (λ d. not (holds others e.0 e.1.ttl d)) e.1.items a.0.contents.each)
    (length left == 0) (without ones others) (without_each ones others a.1)

pub difference_writable : (v w : Version) → IsWritable v → IsWritable w → IsWritableDifference (difference v w)
difference_writable v w hv hw = record { removed = without_each v.sets w.sets hv.sets; added = without_each w.sets v.sets hw.sets }

module _ (P : Difference → Type 0) where
  after_each : (n : ℕ) (ds : List Difference) → AllByRecursion P ds → AllByRecursion P (after_serial n ds)
  after_each n [] a = tt
  after_each n (d ∷ more) a = if_all P (d.start_serial == n) more (after_serial n more) a.1 (after_each n more a.1)

  from_each : (n : ℕ) (ds : List Difference) → AllByRecursion P ds → AllByRecursion P (from_serial n ds)
  from_each n [] a = tt
  from_each n (d ∷ more) a = if_all P (d.start_serial == n) (d ∷ more) (from_serial n more) a (from_each n more a.1)

-- ---- what is kept of a history

pub record IsWritableProvider (p : Provider) : Type 0 where
  pub kept : IsWritable p.kept
  pub differences : AllByRecursion IsWritableDifference p.differences

pub push_writable : (p : Provider) (v : Version) → IsWritableProvider p → IsWritable v → IsWritableProvider (after_push p v (difference_if p.kept v))
push_writable p v h w = by (diffable p.kept v)
  where
    by : (b : Bool) → IsWritableProvider (after_push p v (if b then Some (difference p.kept v) else None))
    by false = record { kept = w; differences = tt }
    by true =
        let d = difference p.kept v in
        record {
          kept = w;
          differences = all_append IsWritableDifference _ (d ∷ [])
              (if_all IsWritableDifference (has_start d.end_serial p.differences) (after_serial d.end_serial p.differences) p.differences (after_each IsWritableDifference d.end_serial p.differences h.differences) h.differences)
              (difference_writable p.kept v h.kept w, tt);
        }

-- ---- texts

record_forms : (owner : Name) (rtype class : ℕ) (s : RecordSet) → IsTrue (is_name owner) → rtype < 2 ^ 16 → class < 2 ^ 16 → IsSetOf rtype s → HaveForms (records_of owner rtype class s)
record_forms owner rtype class s named small below set = each s.items set.each
  where
    each : (items : List (List Field)) → AllByRecursion (IsDataOf rtype) items → HaveForms (map (λ d. record { owner = owner; rtype = rtype; class = class; ttl = s.ttl; fields = d }) items)
    each [] a = tt
    each (d ∷ more) a = ((record { owner = named; rtype = small; class = below; ttl = set.ttl; len = data_short rtype d a.0 }, a.0), each more a.1)

pub soa_forms : (v : Version) → IsWritable v → HaveForms (apex_soa_record v)
soa_forms v h = by (set_at v v.apex type_soa) (found_set v.sets (fold v.apex, type_soa) h.sets)
  where
    first : (s : RecordSet) → IsSetOf type_soa s → IsSetOf type_soa (first_only s)
    first s set = of s.items set.each
      where
        of : (items : List (List Field)) → AllByRecursion (IsDataOf type_soa) items → IsSetOf type_soa (first_only (record { ttl = s.ttl; items = items }))
        of [] a = record { ttl = set.ttl; each = tt }
        of (d ∷ more) a = record { ttl = set.ttl; each = (a.0, tt) }

    by : (o : Option RecordSet) → FoundSet type_soa o → HaveForms (records_of_option v.apex type_soa v.class (option_map first_only o))
    by None f = tt
    by (Some s) f = record_forms v.apex type_soa v.class (first_only s) h.apex (lit< tt) h.class (first s f)

module _ (v : Version) (h : IsWritable v) where
  shown_named : (n : Name) → IsTrue (is_name n) → IsTrue (is_name (shown_owner v n))
  shown_named n named = by (same_name n v.apex)
    where
      by : (b : Bool) → IsTrue (is_name (if b then v.apex else n))
      by true = h.apex
      by false = named

  side_forms : (sets : Sets) → AllByRecursion IsEntry sets → HaveForms (side_records v sets)
  side_forms sets a =
      all_filter HasForm is_plain _ (all_flat IsEntry HasForm (λ (e : Key × RecordSet). records_of (shown_owner v e.0.0) e.0.1 v.class e.1) sets
      (λ e is. record_forms (shown_owner v e.0.0) e.0.1 v.class e.1 (shown_named e.0.0 is.owner) is.rtype h.class is.contents) a)

  side_soa_forms : (sets : Sets) → AllByRecursion IsEntry sets → HaveForms (side_soas v sets)
  side_soa_forms sets a = by (set_in sets (fold v.apex, type_soa)) (found_set sets (fold v.apex, type_soa) a)
    where
      by : (o : Option RecordSet) → FoundSet type_soa o → HaveForms (option_map_or (records_of v.apex type_soa v.class) o [])
      by None f = tt
      by (Some s) f = record_forms v.apex type_soa v.class s h.apex (lit< tt) h.class f

  -- the stops of a walk
  stops : (es : Sets) → AllByRecursion IsEntry es → AllByRecursion IsWritableStop (map (λ (e : Key × RecordSet). record { owner = shown_owner v e.0.0; rtype = e.0.1; contents = e.1; below_cut = is_some (highest_cut v e.0.0) }) es)
  stops [] a = tt
  stops (e ∷ es) a = (record { owner = shown_named e.0.0 a.0.owner; rtype = a.0.rtype; contents = a.0.contents }, stops es a.1)

  walk_forms : HaveForms (records_of_version v)
  walk_forms = all_flat IsWritableStop HasForm (λ (s : Stop). records_of s.owner s.rtype v.class s.contents) (walk v) (λ s is. record_forms s.owner s.rtype v.class s.contents is.owner is.rtype h.class is.contents) (stops v.sets h.sets)

  difference_forms : (d : Difference) → IsWritableDifference d → HaveForms (difference_text v d)
  difference_forms d is =
      all_append HasForm (side_soas v d.removed ++ side_records v d.removed ++ side_soas v d.added) (side_records v d.added)
      (all_append HasForm (side_soas v d.removed ++ side_records v d.removed) (side_soas v d.added)
      (all_append HasForm (side_soas v d.removed) (side_records v d.removed) (side_soa_forms d.removed is.removed) (side_forms d.removed is.removed)) (side_soa_forms d.added is.added)) (side_forms d.added is.added)

  pub whole_forms : HaveForms (whole_text v)
  whole_forms =
      let soa = soa_forms v h in
      let middle = filter (λ r. not (is_apex_soa v r)) (records_of_version v) in
      all_append HasForm (apex_soa_record v ++ middle) (apex_soa_record v)
      (all_append HasForm (apex_soa_record v) middle soa (all_filter HasForm (λ r. not (is_apex_soa v r)) (records_of_version v) walk_forms)) soa

  changes_forms : (ds : List Difference) → AllByRecursion IsWritableDifference ds → HaveForms (changes_text v ds)
  changes_forms ds a =
      let soa = soa_forms v h in
      all_append HasForm (apex_soa_record v ++ flat_map (difference_text v) ds) (apex_soa_record v)
      (all_append HasForm (apex_soa_record v) (flat_map (difference_text v) ds) soa (all_flat IsWritableDifference HasForm (difference_text v) ds difference_forms a)) soa

  newer_forms : (ds : List Difference) → AllByRecursion IsWritableDifference ds → HaveForms (changes_or_whole v ds)
  newer_forms [] a = whole_forms
  newer_forms (d ∷ more) a = if_all HasForm (list_all (is_sendable v) (d ∷ more)) (changes_text v (d ∷ more)) (whole_text v) (changes_forms (d ∷ more) a) whole_forms

pub text_forms : (offer : Offer) (mode : Mode) (asked : ℕ) → IsWritable offer.version → AllByRecursion IsWritableDifference offer.differences → HaveForms (text_of offer mode asked)
text_forms offer Axfr asked h a = whole_forms offer.version h
text_forms offer Ixfr asked h a =
    if_all HasForm (serial_upto (zone_serial offer.version) asked) (apex_soa_record offer.version) (changes_or_whole offer.version offer.differences) (soa_forms offer.version h) (newer_forms offer.version h offer.differences a)

-- .. of what a provider keeps
pub provider_forms : (p : Provider) (mode : Mode) (asked n : ℕ) → IsWritableProvider p → HaveForms (text_of (offer_of p.kept p.differences p.compatibility n) mode asked)
provider_forms p mode asked n h = text_forms (offer_of p.kept p.differences p.compatibility n) mode asked h.kept (from_each IsWritableDifference n p.differences h.differences)

-- .. and of a history
successive_writable : (v : Version) (more : List Version) → IsWritable v → AllByRecursion IsWritable more → AllByRecursion IsWritableDifference (successive (v ∷ more))
successive_writable v [] h a = tt
successive_writable v (w ∷ more) h a = (difference_writable v w h a.0, successive_writable w more a.0 a.1)

pub history_differences : (history : List Version) → AllByRecursion IsWritable history → AllByRecursion IsWritableDifference (successive history)
history_differences [] a = tt
history_differences (v ∷ more) a = successive_writable v more a.0 a.1

-- ---- lists of both

pub forms_written : (rs : List Record) → HaveForms rs → AllByRecursion IsRecord rs
forms_written [] a = tt
forms_written (r ∷ rs) a = (a.0.0, forms_written rs a.1)

pub forms_data : (rs : List Record) → HaveForms rs → AllByRecursion (λ r. IsTrue (is_data r.rtype r.fields)) rs
forms_data [] a = tt
forms_data (r ∷ rs) a = (a.0.1, forms_data rs a.1)
