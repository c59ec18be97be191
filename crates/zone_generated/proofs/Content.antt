-- What the zone has: sets at the apex and at hosts, one SOA record, and few items of few octets. So it may be published.
use Rattle.std.proofs.Common.{◌≡◌, ℕ, zero, suc, ◌+◌, ◌^◌, ◌<◌, ◌≤◌, ◌==◌, Bool, true, false, cond, ◌&&◌, ◌||◌, not, if◌then◌else◌, List, [], ◌∷◌, ◌++◌, length, filter, fold, sum_by, refl, sym, ap, ◌∙◌, subst, Ordering, Less, Equal, Greater, is_eq, Option, Some, None, lit<, lit≤, arith, ne_eqb, eq-eqb, le-leb}
use Rattle.std.specs.Ordering.{match_ordering, nat_cmp, ordering_then}
use Rattle.std.specs.List.{AllByRecursion, list_all}
use Rattle.std.specs.List.Sorted.{IsStrictlySortedBy}
use Rattle.std.specs.BTreeMap.{insert_entry}
use Rattle.std.specs.Map.{keys_of}
use Rattle.std.specs.Cmp.{Equal-is}
use Rattle.std.specs.Cmp.Derive.{both_true}
use Rattle.std.specs.Cmp.Lexicographic.{pointwise_decides, bytes_decides}
use Rattle.std.proofs.lemmas.List.{length-append}
use Rattle.std.proofs.lemmas.List.Sums.{sum_by-cons}
use Rattle.std.proofs.lemmas.Map.{lookup-none}
use Rattle.std.proofs.lemmas.Map.Keys.{sorted_tail}
use Rattle.std.proofs.lemmas.Map.Entries.{none_below_head}
use Rattle.dns_name.specs.Names as names
use Rattle.dns_name.specs.Names.{name_wire, is_name, under}
use Rattle.dns_numbers.specs.Codes.{type_cname, type_soa, type_ds}
use Rattle.dns_name.specs.Records.{Field, Record, same_data, is_data, data_wire}
use Rattle.zone_model.specs.Version.{RecordSet, Key, Sets, Version, key_cmp, set_in, below_apex, all_differ, is_kept}
use Rattle.zone_model.specs.Edits.{with_sets, remove_set, distinct}
use Rattle.zone_model.specs.Classify.{opened_with, lowest_ttl}
use Rattle.zone_model.specs.TransferLaws.{IsPublished}
use Rattle.zone_model.proofs.Folded.{IsFolded, key_total, key_from_tie, fold-fold}
use Rattle.zone_model.proofs.Ordered.{sorted_none, sorted_cons, sorted-insert_entry}
use Rattle.zone_model.proofs.Steps.{items_of, found-insert}
use Rattle.zone_values.proofs.FirstData.{distinct_differ}
use Rattle.zone_generated.specs.Generated.{draws, zone_name, soa_record, ns_record, host_record, generated}
use Rattle.zone_generated.proofs.HostNames.{host_owner, kept_is_name, kept_length}
use Rattle.zone_generated.proofs.Opened.{with_hosts}

-- ---- what each set is

-- data of a type, of few octets
pub record IsItem (rtype : ℕ) (fields : List Field) : Type 0 where
  pub pieces : is_data rtype fields ≡ true
  pub short : length (data_wire fields) ≤ 22

-- an owner of the zone and a type that may stand at any owner
pub record IsOurKey (k : Key) : Type 0 where
  pub zone : under k.0 zone_name ≡ true
  pub folded : IsFolded k
  pub named : is_name k.0 ≡ true
  pub short : length (name_wire k.0) ≤ 21
  pub plain : (k.1 == type_cname) ≡ false
  pub other : (k.1 == type_ds) ≡ false
  pub small : k.1 < 2 ^ 16

pub record IsOurSet (rtype : ℕ) (s : RecordSet) : Type 0 where
  pub ttl : s.ttl ≤ 3600
  pub holds_some : 1 ≤ length s.items
  pub differ : all_differ s.items ≡ true
  pub each : AllByRecursion (IsItem rtype) s.items

abbrev pub IsOurEntry : Key × RecordSet → Type 0
IsOurEntry e = IsOurKey e.0 × IsOurSet e.0.1 e.1

-- ---- look-ups and insertions

-- the set that a look-up finds
pub found_ours : (es : Sets) (k : Key) (s : RecordSet) → AllByRecursion IsOurEntry es → set_in es k ≡ Some s → IsOurSet k.1 s
found_ours [] k s a found = cc
found_ours (e ∷ es) k s a found = by (is_eq (key_cmp k e.0)) refl found (λ g. found_ours es k s a.1 g)
  where
    one_value : (x y : RecordSet) → ◌≡◌ {A = Option RecordSet} (Some x) (Some y) → x ≡ y
    one_value x y g = ap (λ o. elim o as (λ z. RecordSet) [ Some z ↦ z | None ↦ x ]) g

    by : (b : Bool) → is_eq (key_cmp k e.0) ≡ b → cond b (Some e.1) (set_in es k) ≡ Some s → (set_in es k ≡ Some s → IsOurSet k.1 s) → IsOurSet k.1 s
    by true p g later =
        let tie = key_from_tie k e.0 ((Equal-is (key_cmp k e.0)).0 p) in
        subst (λ (x : RecordSet). IsOurSet k.1 x) (one_value e.1 s g) (subst (λ (t : ℕ). IsOurSet t e.1) (sym tie.1) a.0.1)
    by false p g later = later g

found_items : (es : Sets) (k : Key) → AllByRecursion IsOurEntry es → AllByRecursion (IsItem k.1) (items_of (set_in es k))
found_items es k a = by (set_in es k) refl
  where
    by : (o : Option RecordSet) → set_in es k ≡ o → AllByRecursion (IsItem k.1) (items_of o)
    by None e = tt
    by (Some s) e = (found_ours es k s a e).each

insert_ours : (es : Sets) (k : Key) (s : RecordSet) → IsOurKey k → IsOurSet k.1 s → AllByRecursion IsOurEntry es → AllByRecursion IsOurEntry (insert_entry key_cmp es k s)
insert_ours [] k s hk hs a = ((hk, hs), tt)
insert_ours (e ∷ es) k s hk hs a = by (key_cmp k e.0) refl (insert_ours es k s hk hs a.1)
  where
    by : (o : Ordering) → key_cmp k e.0 ≡ o → AllByRecursion IsOurEntry (insert_entry key_cmp es k s) → AllByRecursion IsOurEntry (match_ordering o ((k, s) ∷ e ∷ es) ((e.0, s) ∷ es) (e ∷ insert_entry key_cmp es k s))
    by Less p later = ((hk, hs), a)
    by Equal p later = ((a.0.0, subst (λ (t : ℕ). IsOurSet t s) (key_from_tie k e.0 p).1 hs), a.1)
    by Greater p later = (a.0, later)

-- a number for each set, by its type and how many items it has
abbrev pub total : (ℕ → ℕ → ℕ) → Sets → ℕ
total weight es = sum_by (λ (e : Key × RecordSet). weight e.0.1 (length e.1.items)) es

abbrev weight_of : (ℕ → ℕ → ℕ) → ℕ → Option RecordSet → ℕ
weight_of weight rtype None = 0
weight_of weight rtype (Some s) = weight rtype (length s.items)

module _ (weight : ℕ → ℕ → ℕ) where
  total_cons : (e : Key × RecordSet) (es : Sets) → total weight (e ∷ es) ≡ weight e.0.1 (length e.1.items) + total weight es
  total_cons e es = sum_by-cons (λ (e : Key × RecordSet). weight e.0.1 (length e.1.items)) e es

  -- after an insertion
  total_insert : (es : Sets) (k : Key) (s : RecordSet) → IsStrictlySortedBy key_cmp (keys_of es)
      → total weight (insert_entry key_cmp es k s) + weight_of weight k.1 (set_in es k) ≡ total weight es + weight k.1 (length s.items)
  total_insert [] k s sorted = omega (arith, total_cons (k, s) [])
  total_insert (e ∷ es) k s sorted = by (key_cmp k e.0) refl (total_insert es k s (sorted_tail key_cmp e.0 (keys_of es) sorted))
    where
      by : (o : Ordering) → key_cmp k e.0 ≡ o → total weight (insert_entry key_cmp es k s) + weight_of weight k.1 (set_in es k) ≡ total weight es + weight k.1 (length s.items)
          → total weight (match_ordering o ((k, s) ∷ e ∷ es) ((e.0, s) ∷ es) (e ∷ insert_entry key_cmp es k s)) + weight_of weight k.1 (cond (is_eq o) (Some e.1) (set_in es k))
          ≡ total weight (e ∷ es) + weight k.1 (length s.items)
      by Less p later =
          let none : weight_of weight k.1 (set_in es k) ≡ 0 = ap (weight_of weight k.1) (lookup-none _ es (none_below_head key_total k e es sorted p).1) in
          omega (arith, total_cons (k, s) (e ∷ es), none)
      by Equal p later =
          let tie = (key_from_tie k e.0 p).1 in
          let new : weight e.0.1 (length s.items) ≡ weight k.1 (length s.items) = ap (λ t. weight t (length s.items)) (sym tie) in
          let old : weight e.0.1 (length e.1.items) ≡ weight k.1 (length e.1.items) = ap (λ t. weight t (length e.1.items)) (sym tie) in
          omega (arith, total_cons e es, total_cons (e.0, s) es, new, old)
      by Greater p later = omega (arith, total_cons e es, total_cons e (insert_entry key_cmp es k s), later)

-- how many items there are, and how many of SOA sets
abbrev pub any_items : ℕ → ℕ → ℕ
any_items rtype n = n

abbrev pub soa_items : ℕ → ℕ → ℕ
soa_items rtype n = if rtype == type_soa then n else 0

-- ---- the first of equal data

filter_each : (P : List Field → Type 0) (p : List Field → Bool) (xs : List (List Field)) → AllByRecursion P xs → AllByRecursion P (filter p xs)
filter_each P p [] a = tt
filter_each P p (x ∷ xs) a = by (p x) (filter_each P p xs a.1)
  where
    by : (b : Bool) → AllByRecursion P (filter p xs) → AllByRecursion P (cond b (x ∷ filter p xs) (filter p xs))
    by true later = (a.0, later)
    by false later = later

distinct_each : (P : List Field → Type 0) (xs : List (List Field)) → AllByRecursion P xs → AllByRecursion P (distinct xs)
distinct_each P [] a = tt
distinct_each P (x ∷ xs) a = (a.0, filter_each P (λ y. not (same_data x y)) (distinct xs) (distinct_each P xs a.1))

push_each : (P : List Field → Type 0) (xs : List (List Field)) (d : List Field) → AllByRecursion P xs → P d → AllByRecursion P (xs ++ d ∷ [])
push_each P [] d a h = (h, tt)
push_each P (x ∷ xs) d a h = (a.0, push_each P xs d a.1 h)

filter_length : (p : List Field → Bool) (xs : List (List Field)) → length (filter p xs) ≤ length xs
filter_length p [] = omega arith
filter_length p (x ∷ xs) = by (p x) (filter_length p xs)
  where
    by : (b : Bool) → length (filter p xs) ≤ length xs → length (cond b (x ∷ filter p xs) (filter p xs)) ≤ length (x ∷ xs)
    by true later = omega arith
    by false later = omega arith

distinct_length : (xs : List (List Field)) → length (distinct xs) ≤ length xs
distinct_length [] = omega arith
distinct_length (x ∷ xs) = omega (arith, filter_length (λ y. not (same_data x y)) (distinct xs), distinct_length xs)

some_distinct : (xs : List (List Field)) (d : List Field) → 1 ≤ length (distinct (xs ++ d ∷ []))
some_distinct [] d = omega arith
some_distinct (x ∷ xs) d = omega arith

-- ---- a record put

abbrev pub key_of : Record → Key
key_of r = (names.fold r.owner, r.rtype)

abbrev pub set_with : Record → Option RecordSet → RecordSet
set_with r o = record { ttl = lowest_ttl r o; items = distinct (items_of o ++ r.fields ∷ []) }

abbrev pub put_to : Sets → Record → Sets
put_to es r = insert_entry key_cmp es (key_of r) (set_with r (set_in es (key_of r)))

pub opened_puts : (v : Version) (r : Record) → opened_with v r ≡ with_sets v (put_to v.sets r)
opened_puts v r =
    ap (λ b. if b then remove_set v r.owner r.rtype else with_sets v (put_to v.sets r))
    (ne_eqb (length (set_with r (set_in v.sets (key_of r))).items) 0 (λ z. omega (arith, z, some_distinct (items_of (set_in v.sets (key_of r))) r.fields)))

-- ---- the sets as they are made

-- sets of ours, with so many items at most, one of them an SOA's, at the apex
pub record IsOurs (most : ℕ) (es : Sets) : Type 0 where
  pub ordered : IsStrictlySortedBy key_cmp (keys_of es)
  pub each : AllByRecursion IsOurEntry es
  pub few : total any_items es ≤ most
  pub soa : length (items_of (set_in es (names.fold zone_name, type_soa))) ≡ 1
  pub lone : total soa_items es ≡ 1

lowest : (r : Record) (o : Option RecordSet) → r.ttl ≤ 3600 → lowest_ttl r o ≤ 3600
lowest r None h = h
lowest r (Some s) h = omega (arith, h)

-- the host of a draw
host_key : (n x : ℕ) → 0 < n → n < 2 ^ 32 → IsOurKey (key_of (host_record n x))
host_key n x some small = record {
  zone = refl;
  folded = fold-fold (host_owner n x);
  named = kept_is_name n x some small;
  short = kept_length n x some small;
  plain = refl;
  other = refl;
  small = lit< tt;
}

host_item : (n x : ℕ) → IsItem 1 (host_record n x).fields
host_item n x = record { pieces = refl; short = lit≤ tt }

host_set : (n x : ℕ) (es : Sets) → AllByRecursion IsOurEntry es → IsOurSet 1 (set_with (host_record n x) (set_in es (key_of (host_record n x))))
host_set n x es a =
    let k = key_of (host_record n x) in
    let fields = (host_record n x).fields in
    let old = items_of (set_in es k) in
    record {
      ttl = lowest (host_record n x) (set_in es k) (lit≤ tt);
      holds_some = some_distinct old fields;
      differ = distinct_differ (old ++ fields ∷ []);
      each = distinct_each (IsItem 1) (old ++ fields ∷ []) (push_each (IsItem 1) old fields (found_items es k a) (host_item n x));
    }

-- one more item at most
more_items : (o : Option RecordSet) (d : List Field) → length (distinct (items_of o ++ d ∷ [])) ≤ weight_of any_items 1 o + 1
more_items None d = omega arith
more_items (Some s) d = omega (arith, distinct_length (s.items ++ d ∷ []), length-append s.items (d ∷ []))

no_soa_items : (o : Option RecordSet) → weight_of soa_items 1 o ≡ 0
no_soa_items None = refl
no_soa_items (Some s) = refl

-- the key of the SOA set is another one
other_type : (c : Ordering) → is_eq (ordering_then c (nat_cmp 6 1)) ≡ false
other_type Less = refl
other_type Equal = refl
other_type Greater = refl

put_ours : (n x most : ℕ) (es : Sets) → 0 < n → n < 2 ^ 32 → IsOurs most es → IsOurs (most + 1) (put_to es (host_record n x))
put_ours n x most es some small h =
    let r = host_record n x in
    let k = key_of r in
    let s = set_with r (set_in es k) in
    let q : Key = (names.fold zone_name, type_soa) in
    record {
      ordered = sorted-insert_entry key_total es k s h.ordered;
      each = insert_ours es k s (host_key n x some small) (host_set n x es h.each) h.each;
      few = omega (arith, h.few, total_insert any_items es k s h.ordered, more_items (set_in es k) r.fields);
      soa = ap (λ o. length (items_of o)) (found-insert es k s q ∙ ap (λ b. cond b (Some s) (set_in es q)) (other_type (names.canonical_cmp q.0 k.0))) ∙ h.soa;
      lone = omega (arith, h.lone, total_insert soa_items es k s h.ordered, no_soa_items (set_in es k));
    }

-- ---- all of them

abbrev pub at_apex : Sets → Version
at_apex es = record { apex = zone_name; class = 1; sets = es }

abbrev first_sets : Sets
first_sets =
    ((zone_name, 2), record { ttl = 3600; items = ns_record.fields ∷ [] })
    ∷ ((zone_name, 6), record { ttl = 3600; items = soa_record.fields ∷ [] })
    ∷ []

begins : opened_with (opened_with (at_apex []) soa_record) ns_record ≡ at_apex first_sets
begins = refl

first_ours : IsOurs 2 first_sets
first_ours = record {
  ordered = sorted_cons key_cmp (zone_name, 2) ((zone_name, 6) ∷ []) (refl, tt) (sorted_cons key_cmp (zone_name, 6) [] tt (sorted_none key_cmp));
  each = (
    (
      record { zone = refl; folded = refl; named = refl; short = lit≤ tt; plain = refl; other = refl; small = lit< tt },
      record { ttl = lit≤ tt; holds_some = lit≤ tt; differ = refl; each = (record { pieces = refl; short = lit≤ tt }, tt) },
    ),
    (
      (
        record { zone = refl; folded = refl; named = refl; short = lit≤ tt; plain = refl; other = refl; small = lit< tt },
        record { ttl = lit≤ tt; holds_some = lit≤ tt; differ = refl; each = (record { pieces = refl; short = lit≤ tt }, tt) },
      ),
      tt,
    ),
  );
  few = lit≤ tt;
  soa = refl;
  lone = refl;
}

-- with the hosts of some draws, each one of n
abbrev hosts_put : ℕ → List ℕ → Sets → Sets
hosts_put n [] es = es
hosts_put n (x ∷ xs) es = hosts_put n xs (put_to es (host_record n x))

hosts_are : (n : ℕ) (xs : List ℕ) (es : Sets) → with_hosts n (at_apex es) xs ≡ at_apex (hosts_put n xs es)
hosts_are n [] es = refl
hosts_are n (x ∷ xs) es = ap (λ v. with_hosts n v xs) (opened_puts (at_apex es) (host_record n x)) ∙ hosts_are n xs (put_to es (host_record n x))

hosts_ours : (n : ℕ) → 0 < n → n < 2 ^ 32 → (xs : List ℕ) (es : Sets) (now most : ℕ) → now + length xs ≤ most → IsOurs now es → IsOurs most (hosts_put n xs es)
hosts_ours n some small [] es now most fits h = record { ordered = h.ordered; each = h.each; few = omega (arith, h.few, fits); soa = h.soa; lone = h.lone }
hosts_ours n some small (x ∷ xs) es now most fits h = hosts_ours n some small xs (put_to es (host_record n x)) (now + 1) most (omega (arith, fits)) (put_ours n x now es some small h)

draws_length : (n x : ℕ) → length (draws n x) ≡ n
draws_length zero x = refl
draws_length (suc n) x = ap suc (draws_length n _)

-- the sets of the zone
abbrev pub generated_sets : ℕ → ℕ → Sets
generated_sets n seed = hosts_put n (draws n seed) first_sets

pub generated_is : (n seed : ℕ) → generated n seed ≡ at_apex (generated_sets n seed)
generated_is n seed = hosts_are n (draws n seed) first_sets

pub generated_ours : (n seed : ℕ) → 0 < n → n < 2 ^ 32 → IsOurs (n + 2) (generated_sets n seed)
generated_ours n seed some small = hosts_ours n some small (draws n seed) first_sets 2 (n + 2) (omega (arith, draws_length n seed)) first_ours

-- ---- so they may be published

loose : (a b c : Bool) → b ≡ false → (not (a && b) || c) ≡ true
loose true true c h = cc
loose true false c h = refl
loose false b c h = refl

entry_kept : (es : Sets) (e : Key × RecordSet) → IsOurEntry e → is_kept (at_apex es) e ≡ true
entry_kept es e h =
    both_true (both_true (both_true (both_true (both_true h.0.zone ((pointwise_decides bytes_decides e.0.0 (names.fold e.0.0)).1 (sym h.0.folded))) (le-leb 1 (length e.1.items) h.1.holds_some)) h.1.differ)
    (loose (below_apex (at_apex es) e.0.0) (e.0.1 == type_cname) _ h.0.plain)) (loose (below_apex (at_apex es) e.0.0) (e.0.1 == type_ds) _ h.0.other)

all_kept : (es more : Sets) → AllByRecursion IsOurEntry more → list_all (is_kept (at_apex es)) more ≡ true
all_kept es [] a = refl
all_kept es (e ∷ more) a = both_true (entry_kept es e a.0) (all_kept es more a.1)

pub ours_published : (most : ℕ) (es : Sets) → IsOurs most es → IsPublished zone_name (at_apex es)
ours_published most es h = record {
  valid = record { ordered = h.ordered; kept = all_kept es es h.each };
  one_soa = both_true (eq-eqb _ 1 h.soa) (eq-eqb _ 1 h.lone);
  same_apex = refl;
}

pub generated_published : (n seed : ℕ) → 0 < n → n < 2 ^ 32 → IsPublished zone_name (generated n seed)
generated_published n seed some small = subst (IsPublished zone_name) (sym (generated_is n seed)) (ours_published (n + 2) (generated_sets n seed) (generated_ours n seed some small))
