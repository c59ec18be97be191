-- The zone takes its records one by one, and keeps them all as it opens.
use Rattle.std.proofs.Common.{◌≡◌, ℕ, suc, ◌+◌, ◌<◌, ◌≤◌, ◌==◌, Bool, true, false, ◌&&◌, not, cond, if◌then◌else◌, List, [], ◌∷◌, ◌++◌, length, get_or, drop, drop-cons, drop_of_length-le, map, filter, fold, refl, sym, ap, ◌∙◌, is_some, arith}
use Rattle.std.specs.List.{AllByRecursion}
use Rattle.std.specs.BTreeMap.{insert_entry}
use Rattle.std.specs.Map.{keys_of}
use Rattle.dns_name.specs.Names.{Name}
use Rattle.dns_name.specs.Names as names
use Rattle.dns_numbers.specs.Codes.{type_ns, type_ds}
use Rattle.dns_name.specs.Records.{Record}
use Rattle.zone_model.specs.Version.{RecordSet, Key, Sets, Version, key_cmp, has_key, set_at, data_at, below_apex}
use Rattle.zone_model.specs.Edits.{with_sets, put_set, remove_set, distinct, is_stray, close}
use Rattle.zone_model.specs.Classify.{opened_with, lowest_ttl}
use Rattle.zone_model.proofs.Folded.{key_total}
use Rattle.zone_model.proofs.Ordered.{passes-insert_entry, passes-remove_entry}
use Rattle.zone_generated.specs.Generated.{next_draw, draws, zone_name, soa_record, ns_record, host_record, generated}

-- ---- the hosts that are left

-- a version with the hosts of some draws, each one of n
abbrev pub with_hosts : ℕ → Version → List ℕ → Version
with_hosts n v xs = fold opened_with v (map (host_record n) xs)

-- the next draw, and those after it
drop_first : (xs : List ℕ) (i : ℕ) → i < length xs → drop i xs ≡ get_or xs i 0 ∷ drop (i + 1) xs
drop_first xs i h =
    let next : suc i ≡ i + 1 = omega arith in
    drop-cons xs i 0 h ∙ ap (λ j. get_or xs i 0 ∷ drop j xs) next

-- the host of the next draw is put, and fewer are left
pub host_put : (n i : ℕ) (xs : List ℕ) (v w z : Version) → i < length xs → w ≡ opened_with v (host_record n (get_or xs i 0)) → with_hosts n v (drop i xs) ≡ z → with_hosts n w (drop (i + 1) xs) ≡ z
host_put n i xs v w z h ew e = ap (λ u. with_hosts n u (drop (i + 1) xs)) ew ∙ sym (ap (with_hosts n v) (drop_first xs i h)) ∙ e

-- no host is left
pub all_put : (n i : ℕ) (xs : List ℕ) (v z : Version) → length xs ≤ i → with_hosts n v (drop i xs) ≡ z → v ≡ z
all_put n i xs v z h e = sym (ap (with_hosts n v) (drop_of_length-le xs h)) ∙ e

-- ---- nothing of them goes

abbrev pub IsOther : Key → Type 0
IsOther k = (k.1 == type_ds) ≡ false

abbrev pub AllOther : Version → Type 0
AllOther v = AllByRecursion IsOther (keys_of v.sets)

put_other : (v : Version) (n : Name) (t : ℕ) (s : RecordSet) → (t == type_ds) ≡ false → AllOther v → AllOther (put_set v n t s)
put_other v n t s h a = by (length s.items == 0)
  where
    by : (b : Bool) → AllOther (if b then remove_set v n t else with_sets v (insert_entry key_cmp v.sets (names.fold n, t) s))
    by true = passes-remove_entry key_total IsOther (has_key (names.fold n, t)) v.sets a
    by false = passes-insert_entry key_total IsOther v.sets (names.fold n, t) s h a

opened_other : (v : Version) (r : Record) → (r.rtype == type_ds) ≡ false → AllOther v → AllOther (opened_with v r)
opened_other v r h a = put_other v r.owner r.rtype (record { ttl = lowest_ttl r (set_at v r.owner r.rtype); items = distinct (data_at v r.owner r.rtype ++ r.fields ∷ []) }) h a

hosts_other : (n : ℕ) (v : Version) (xs : List ℕ) → AllOther v → AllOther (with_hosts n v xs)
hosts_other n v [] a = a
hosts_other n v (x ∷ xs) a = hosts_other n (opened_with v (host_record n x)) xs (opened_other v (host_record n x) refl a)

no_stray : (v : Version) (e : Key × RecordSet) → IsOther e.0 → is_stray v e ≡ false
no_stray v e h = ap (λ b. below_apex v e.0.0 && b && not (is_some (set_at v e.0.0 type_ns))) h ∙ by (below_apex v e.0.0)
  where
    by : (b : Bool) → (b && false && not (is_some (set_at v e.0.0 type_ns))) ≡ false
    by true = refl
    by false = refl

all_kept : (v : Version) (es : Sets) → AllByRecursion IsOther (keys_of es) → filter (λ e. not (is_stray v e)) es ≡ es
all_kept v [] a = refl
all_kept v (e ∷ es) a =
    ap (λ b. cond (not b) (e ∷ filter (λ e. not (is_stray v e)) es) (filter (λ e. not (is_stray v e)) es)) (no_stray v e a.0)
    ∙ ap (λ l. e ∷ l) (all_kept v es a.1)

closed : (v : Version) → AllOther v → close v ≡ v
closed v a = ap (with_sets v) (all_kept v v.sets a)

generated_other : (n seed : ℕ) → AllOther (generated n seed)
generated_other n seed =
    let empty : Version = record { apex = zone_name; class = 1; sets = [] } in
    hosts_other n (opened_with (opened_with empty soa_record) ns_record) (draws n seed)
    (opened_other (opened_with empty soa_record) ns_record refl (opened_other empty soa_record refl tt))

-- the zone opens as it is
pub opens : (n seed : ℕ) → close (generated n seed) ≡ generated n seed
opens n seed = closed (generated n seed) (generated_other n seed)
