-- Edits keep a version sound, and a sound one that is closed may be published.
use Rattle.std.proofs.Common.{◌≡◌, ℕ, zero, suc, ◌-◌, ◌≤◌, ◌==◌, Bool, true, false, cond, ◌&&◌, ◌||◌, not, nat_le, if◌then◌else◌, List, [], ◌∷◌, ◌++◌, length, drop, refl, sym, ap, ◌∙◌, subst, true≢false, Option, Some, None, is_some, is_eq, Ok, Err, eqb-true, eq-eqb, leb-true, le-leb, IsTrue, arith}
use Rattle.std.specs.Option.{option_map_or}
use Rattle.std.specs.List.{list_all, list_any, filter}
use Rattle.std.specs.List.Sorted.{IsStrictlySortedBy}
use Rattle.std.specs.BTreeMap.{insert_entry}
use Rattle.std.specs.Map.{keys_of}
use Rattle.std.specs.Cmp.{first_so, second_so, Equal-is}
use Rattle.std.specs.Cmp.Derive.{both_true}
use Rattle.std.specs.Cmp.Lexicographic.{pointwise_decides, bytes_decides}
use Rattle.std.proofs.lemmas.List.Kept.{IsStrictlySortedBy-filter}
use Rattle.std.proofs.lemmas.Map.Entries.{lookup-filter-keys}
use Rattle.dns_name.specs.Names.{Name, fold, under}
use Rattle.dns_numbers.specs.Codes.{type_ns, type_cname, type_soa, type_ds}
use Rattle.dns_rdata.specs.Records.{Field, Record, same_data}
use Rattle.zone_model.specs.Version.{RecordSet, Key, Sets, Version, IsValid, key_cmp, has_key, set_in, set_at, data_at, in_zone, below_apex, all_differ, is_kept}
use Rattle.zone_model.specs.Edits.{OutOfZone, Incompatible, InvalidData, with_sets, put_set, remove_set, has_data, second_alias, add, delete, is_stray, close}
use Rattle.zone_model.proofs.Folded.{IsFolded, key_total, key_from_tie, same_key, fold-fold, under_alike}
use Rattle.zone_model.proofs.Ordered.{sorted_none, sorted-insert_entry, sorted-remove_entry}
use Rattle.zone_model.proofs.Steps.{below_alike}
use Rattle.zone_versions.specs.Sound.{is_sound_at, IsSound}
use Rattle.zone_versions.specs.Strays.{is_stray_at}
use Rattle.zone_versions.specs.Puts.{with_soa, opened_by, adds_alias}
use Rattle.zone_model.specs.Classify.{lowest_ttl}
use Rattle.zone_values.proofs.Equality.{filter_map}
use Rattle.zone_values.proofs.KeptTypes.{all_insert, all_remove}
use Rattle.zone_versions.proofs.Closing.{closed_is}
use Rattle.zone_versions.proofs.Distinct.{differ_push, differ_pushed, pushed_new, has_distinct_data}

-- ---- one entry

-- what a sound version keeps at an entry, whose key is (owner, type)
pub record Sounds (v : Version) (k : Key) (s : RecordSet) : Type 0 where
  pub zone : under k.0 v.apex ≡ true
  pub folded : IsFolded k
  pub holds_some : 1 ≤ length s.items
  pub differ : all_differ s.items ≡ true
  pub alias : (below_apex v k.0 && (k.1 == type_cname)) ≡ true → length s.items ≡ 1

implied : (a b : Bool) → (not a || b) ≡ true → a ≡ true → b ≡ true
implied true b h e = h
implied false b h e = absurd (true≢false (sym e))

implies : (a b : Bool) → (a ≡ true → b ≡ true) → (not a || b) ≡ true
implies true b h = h refl
implies false b h = refl

pub taken_apart : (v : Version) (e : Key × RecordSet) → is_sound_at v e ≡ true → Sounds v e.0 e.1
taken_apart v e h =
    let alias : Bool = not (below_apex v e.0.0 && (e.0.1 == type_cname)) || (length e.1.items == 1) in
    let four = first_so _ alias h in
    let three = first_so _ (all_differ e.1.items) four in
    let two = first_so _ (nat_le 1 (length e.1.items)) three in
    record {
      zone = first_so (in_zone v e.0.0) _ two;
      folded = sym ((pointwise_decides bytes_decides e.0.0 (fold e.0.0)).0 (second_so (in_zone v e.0.0) _ two));
      holds_some = leb-true 1 (length e.1.items) (second_so _ (nat_le 1 (length e.1.items)) three);
      differ = second_so _ (all_differ e.1.items) four;
      alias = λ b. eqb-true (length e.1.items) 1 (implied _ (length e.1.items == 1) (second_so _ alias h) b);
    }

put_together : (v : Version) (k : Key) (s : RecordSet) → Sounds v k s → is_sound_at v (k, s) ≡ true
put_together v k s h =
    both_true (both_true (both_true (both_true h.zone ((pointwise_decides bytes_decides k.0 (fold k.0)).1 (sym h.folded))) (some (length s.items) h.holds_some)) h.differ)
    (implies (below_apex v k.0 && (k.1 == type_cname)) (length s.items == 1) (λ b. eq-eqb (length s.items) 1 (h.alias b)))
  where
    some : (n : ℕ) → 1 ≤ n → nat_le 1 n ≡ true
    some n g = le-leb 1 n g

-- ---- entries

-- the entry that a look-up finds
pub found_sound : (v : Version) (es : Sets) (k : Key) (s : RecordSet) → IsFolded k → list_all (is_sound_at v) es ≡ true → set_in es k ≡ Some s → Sounds v k s
found_sound v [] k s f h found = absurd (true≢false (sym (ap is_some found)))
found_sound v (e ∷ es) k s f h found = by (is_eq (key_cmp k e.0)) refl found (λ g. found_sound v es k s f (second_so (is_sound_at v e) _ h) g)
  where
    one_value : (x y : RecordSet) → ◌≡◌ {A = Option RecordSet} (Some x) (Some y) → x ≡ y
    one_value x y g = ap (λ o. elim o as (λ z. RecordSet) [ Some z ↦ z | None ↦ x ]) g

    by : (b : Bool) → is_eq (key_cmp k e.0) ≡ b → cond b (Some e.1) (set_in es k) ≡ Some s → (set_in es k ≡ Some s → Sounds v k s) → Sounds v k s
    by true q g later =
        let here : Sounds v e.0 e.1 = taken_apart v e (first_so (is_sound_at v e) _ h) in
        let P : Key → Type 0 = λ x. Sounds v x e.1 in
        let Q : RecordSet → Type 0 = λ x. Sounds v k x in
        subst Q (one_value e.1 s g) (subst P (sym (same_key k e.0 f here.folded ((Equal-is (key_cmp k e.0)).0 q))) here)
    by false q g later = later g

-- ---- a set put

positive : (n : ℕ) → (n == 0) ≡ false → 1 ≤ n
positive n h = by n refl
  where
    by : (m : ℕ) → n ≡ m → 1 ≤ n
    by zero e = absurd (true≢false (sym (eq-eqb n 0 e) ∙ h))
    by (suc m) e = omega arith

pub sound_put : (v : Version) (owner : Name) (rtype : ℕ) (s : RecordSet) → IsSound v → under owner v.apex ≡ true → all_differ s.items ≡ true
    → ((below_apex v owner && (rtype == type_cname)) ≡ true → length s.items ≤ 1) → IsSound (put_set v owner rtype s)
sound_put v owner rtype s h zone differ alias = by (length s.items == 0) refl
  where
    k : Key
    k = (fold owner, rtype)

    here : (length s.items == 0) ≡ false → Sounds v k s
    here n = record {
      zone = under_alike (fold owner) owner v.apex v.apex (fold-fold owner) refl ∙ zone;
      folded = fold-fold owner;
      holds_some = some n;
      differ = differ;
      alias = λ b. one (some n) (alias (ap (λ c. c && (rtype == type_cname)) (sym (below_alike v (fold owner) owner (fold-fold owner))) ∙ b));
    }
      where
        some : (length s.items == 0) ≡ false → 1 ≤ length s.items
        some m = positive (length s.items) m

        one : 1 ≤ length s.items → length s.items ≤ 1 → length s.items ≡ 1
        one a b = omega arith

    by : (b : Bool) → (length s.items == 0) ≡ b → IsSound (if b then remove_set v owner rtype else with_sets v (insert_entry key_cmp v.sets k s))
    by true n = record { ordered = sorted-remove_entry key_total (has_key k) v.sets h.ordered; kept = all_remove (is_sound_at v) (has_key k) v.sets h.kept }
    by false n =
        let it : Sounds v k s = here n in
        let P : Key → Type 0 = λ x. is_sound_at v (x, s) ≡ true in
        record {
          ordered = sorted-insert_entry key_total v.sets k s h.ordered;
          kept = all_insert (is_sound_at v) v.sets k s (put_together v k s it)
              (λ e p t. subst P (same_key k e.0 it.folded (taken_apart v e p).folded t) (put_together v k s it)) h.kept;
        }

-- ---- what stands

items_in : Option RecordSet → List (List Field)
items_in o = option_map_or (λ (s : RecordSet). s.items) o []

pub record Stands (v : Version) (owner : Name) (rtype : ℕ) (items : List (List Field)) : Type 0 where
  pub differ : all_differ items ≡ true
  pub alias : (below_apex v owner && (rtype == type_cname)) ≡ true → length items ≤ 1

pub data_stand : (v : Version) (owner : Name) (rtype : ℕ) → IsSound v → Stands v owner rtype (data_at v owner rtype)
data_stand v owner rtype h = by (set_at v owner rtype) refl
  where
    by : (o : Option RecordSet) → set_at v owner rtype ≡ o → Stands v owner rtype (option_map_or (λ (s : RecordSet). s.items) o [])
    by None e = record { differ = refl; alias = λ b. omega arith }
    by (Some s) e =
        let it : Sounds v (fold owner, rtype) s = found_sound v v.sets (fold owner, rtype) s (fold-fold owner) h.kept e in
        record {
          differ = it.differ;
          alias = λ b. let one : length s.items ≡ 1 = it.alias (ap (λ c. c && (rtype == type_cname)) (below_alike v (fold owner) owner (fold-fold owner)) ∙ b) in omega arith;
        }

-- ---- edits

-- a first CNAME stands alone
lone_alias : (v : Version) (r : Record) → second_alias v r ≡ false → (below_apex v r.owner && (r.rtype == type_cname)) ≡ true → length (data_at v r.owner r.rtype ++ r.fields ∷ []) ≤ 1
lone_alias v r t b =
    let type_is : r.rtype ≡ type_cname = eqb-true r.rtype type_cname (second_so (below_apex v r.owner) _ b) in
    let gone : is_some (set_at v r.owner type_cname) ≡ false = sym (ap (λ c. c && is_some (set_at v r.owner type_cname)) b) ∙ t in
    none (set_at v r.owner r.rtype) (ap (λ n. is_some (set_at v r.owner n)) type_is ∙ gone)
  where
    none : (o : Option RecordSet) → is_some o ≡ false → length (option_map_or (λ (s : RecordSet). s.items) o [] ++ r.fields ∷ []) ≤ 1
    none None g = omega arith
    none (Some s) g = absurd (true≢false g)

pub add_sound : (v w : Version) (r : Record) → IsSound v → add v r ≡ Ok w → IsSound w
add_sound v w r h e = by (under r.owner v.apex) (has_data v r) (second_alias v r) refl refl refl e
  where
    items : List (List Field)
    items = data_at v r.owner r.rtype ++ r.fields ∷ []

    put : Version
    put = put_set v r.owner r.rtype (record { ttl = r.ttl; items = items })

    by : (u d s : Bool) → under r.owner v.apex ≡ u → has_data v r ≡ d → second_alias v r ≡ s → (if not u then Err OutOfZone else if d then Err Incompatible else if s then Err InvalidData else Ok put) ≡ Ok w → IsSound w
    by false d s p q t g = absurd (cc)
    by true true s p q t g = absurd (cc)
    by true false true p q t g = absurd (cc)
    by true false false p q t g =
        let same : put ≡ w = cc in
        let it = data_stand v r.owner r.rtype h in
        let P : Version → Type 0 = λ x. IsSound x in
        subst P same (sound_put v r.owner r.rtype (record { ttl = r.ttl; items = items }) h p (differ_push (data_at v r.owner r.rtype) r.fields it.differ q) (lone_alias v r t))

any_left : {X : Type 0} (p q : X → Bool) (xs : List X) → list_any q xs ≡ false → list_any q (filter p xs) ≡ false
any_left p q [] h = refl
any_left p q (x ∷ xs) h = by (p x) (q x) refl h (λ k. any_left p q xs k)
  where
    by : (b c : Bool) → q x ≡ c → (c || list_any q xs) ≡ false → (list_any q xs ≡ false → list_any q (filter p xs) ≡ false) → list_any q (cond b (x ∷ filter p xs) (filter p xs)) ≡ false
    by true true e g later = absurd (true≢false g)
    by true false e g later = ap (λ c. c || list_any q (filter p xs)) e ∙ later g
    by false true e g later = absurd (true≢false g)
    by false false e g later = later g

differ_left : (p : List Field → Bool) (xs : List (List Field)) → all_differ xs ≡ true → all_differ (filter p xs) ≡ true
differ_left p [] h = refl
differ_left p (x ∷ xs) h = by (p x) (differ_left p xs (second_so (not (list_any (same_data x) xs)) (all_differ xs) h))
  where
    not_true : (b : Bool) → not b ≡ true → b ≡ false
    not_true true g = absurd (true≢false (sym g))
    not_true false g = refl

    by : (b : Bool) → all_differ (filter p xs) ≡ true → all_differ (cond b (x ∷ filter p xs) (filter p xs)) ≡ true
    by true later = both_true (ap not (any_left p (same_data x) xs (not_true _ (first_so (not (list_any (same_data x) xs)) (all_differ xs) h)))) later
    by false later = later

length_left : {X : Type 0} (p : X → Bool) (xs : List X) → length (filter p xs) ≤ length xs
length_left p [] = omega arith
length_left p (x ∷ xs) = by (p x) (length_left p xs)
  where
    by : (b : Bool) → length (filter p xs) ≤ length xs → length (cond b (x ∷ filter p xs) (filter p xs)) ≤ length (x ∷ xs)
    by true later = omega arith
    by false later = omega arith

pub delete_sound : (v w : Version) (r : Record) → IsSound v → delete v r ≡ Ok w → IsSound w
delete_sound v w r h e = by (under r.owner v.apex) (has_data v r) refl e
  where
    keeps : List Field → Bool
    keeps d = not (same_data r.fields d)

    items : List (List Field)
    items = filter (λ d. not (same_data r.fields d)) (data_at v r.owner r.rtype)

    put : Version
    put = put_set v r.owner r.rtype (record { ttl = r.ttl; items = items })

    by : (u d : Bool) → under r.owner v.apex ≡ u → (if not u then Err OutOfZone else if not d then Err Incompatible else Ok put) ≡ Ok w → IsSound w
    by false d p g = absurd (cc)
    by true false p g = absurd (cc)
    by true true p g =
        let same : put ≡ w = cc in
        let it = data_stand v r.owner r.rtype h in
        let P : Version → Type 0 = λ x. IsSound x in
        let fewer : length items ≤ length (data_at v r.owner r.rtype) = length_left (λ d. not (same_data r.fields d)) (data_at v r.owner r.rtype) in
        subst P same (sound_put v r.owner r.rtype (record { ttl = r.ttl; items = items }) h p (differ_left (λ d. not (same_data r.fields d)) (data_at v r.owner r.rtype) it.differ) (λ b. let most : length (data_at v r.owner r.rtype) ≤ 1 = it.alias b in omega arith))

-- what is deleted stands in the zone
pub delete_in_zone : (v w : Version) (r : Record) → delete v r ≡ Ok w → under r.owner v.apex ≡ true
delete_in_zone v w r e = by (under r.owner v.apex) (has_data v r) refl e
  where
    put : Version
    put = put_set v r.owner r.rtype (record { ttl = r.ttl; items = filter (λ d. not (same_data r.fields d)) (data_at v r.owner r.rtype) })

    by : (u d : Bool) → under r.owner v.apex ≡ u → (if not u then Err OutOfZone else if not d then Err Incompatible else Ok put) ≡ Ok w → u ≡ true
    by false d p g = absurd (cc)
    by true d p g = refl

pub under_itself : (n : Name) → under n n ≡ true
under_itself n = (pointwise_decides bytes_decides (fold n) (drop (length (fold n) - length (fold n)) (fold n))).1 (whole (length (fold n) - length (fold n)) (omega arith))
  where
    whole : (k : ℕ) → k ≡ 0 → fold n ≡ drop k (fold n)
    whole k e = sym (ap (λ j. drop j (fold n)) e)

pub soa_sound : (v : Version) (ttl : ℕ) (fields : List Field) → IsSound v → IsSound (with_soa v ttl fields)
soa_sound v ttl fields h = sound_put v v.apex type_soa (record { ttl = ttl; items = fields ∷ [] }) h (under_itself v.apex) refl (λ b. omega arith)

pub cleared_sound : (v : Version) → IsSound (with_sets v [])
cleared_sound v = record { ordered = sorted_none key_cmp; kept = refl }

pub empty_sound : (apex : Name) (class : ℕ) → IsSound (record { apex = apex; class = class; sets = [] })
empty_sound apex class = record { ordered = sorted_none key_cmp; kept = refl }

pub empty_valid : (apex : Name) (class : ℕ) → IsValid (record { apex = apex; class = class; sets = [] })
empty_valid apex class = record { ordered = sorted_none key_cmp; kept = refl }

-- a record of a zone file that is no second CNAME
pub opened_sound : (v : Version) (r : Record) → IsSound v → under r.owner v.apex ≡ true → adds_alias v r ≡ false → IsSound (opened_by v r)
opened_sound v r h zone plain =
    sound_put v r.owner r.rtype (record { ttl = lowest_ttl r (set_at v r.owner r.rtype); items = pushed_new (data_at v r.owner r.rtype) r.fields }) h zone
    (differ_pushed (data_at v r.owner r.rtype) r.fields (data_stand v r.owner r.rtype h).differ) (λ b. by (has_data v r) plain b)
  where
    lone : second_alias v r && true ≡ false → (below_apex v r.owner && (r.rtype == type_cname)) ≡ true → length (data_at v r.owner r.rtype ++ r.fields ∷ []) ≤ 1
    lone t b = lone_alias v r (not_and (second_alias v r) t) b
      where
        not_and : (c : Bool) → (c && true) ≡ false → c ≡ false
        not_and true e = absurd (true≢false e)
        not_and false e = refl

    by : (d : Bool) → (second_alias v r && not d) ≡ false → (below_apex v r.owner && (r.rtype == type_cname)) ≡ true → length (if d then data_at v r.owner r.rtype else data_at v r.owner r.rtype ++ r.fields ∷ []) ≤ 1
    by true t b = (data_stand v r.owner r.rtype h).alias b
    by false t b = lone t b

-- ---- publishing

all_weaker : (p q : Key × RecordSet → Bool) → ((e : Key × RecordSet) → p e ≡ true → q e ≡ true) → (es : Sets) → list_all p es ≡ true → list_all q es ≡ true
all_weaker p q f [] h = refl
all_weaker p q f (e ∷ es) h = both_true (f e (first_so (p e) _ h)) (all_weaker p q f es (second_so (p e) _ h))

pub distinct_data : (v : Version) → IsSound v → IsTrue (has_distinct_data v)
distinct_data v h = all_weaker (is_sound_at v) (λ (e : Key × RecordSet). all_differ e.1.items) (λ e s. (taken_apart v e s).differ) v.sets h.kept

pub valid_sound : (v : Version) → IsValid v → IsSound v
valid_sound v h = record { ordered = h.ordered; kept = all_weaker (is_kept v) (is_sound_at v) (λ e s. first_so (is_sound_at v e) _ s) v.sets h.kept }

and_false : (b : Bool) → (b && false) ≡ false
and_false true = refl
and_false false = refl

-- NS sets stay
ns_stays : (v : Version) (n : Name) → set_at (close v) n type_ns ≡ set_at v n type_ns
ns_stays v n = lookup-filter-keys (has_key (fold n, type_ns)) (λ k. not (is_stray_at v k)) true stays v.sets
  where
    stays : (k : Key) → has_key (fold n, type_ns) k ≡ true → not (is_stray_at v k) ≡ true
    stays k t =
        let tied = key_from_tie (fold n, type_ns) k ((Equal-is (key_cmp (fold n, type_ns) k)).0 t) in
        ap not (ap (λ m. below_apex v k.0 && (m == type_ds) && not (is_some (set_at v k.0 type_ns))) (sym tied.1) ∙ ap (λ b. b && not (is_some (set_at v k.0 type_ns))) (and_false (below_apex v k.0)))

pub close_sound : (v : Version) → IsSound v → IsValid (close v)
close_sound v h = record {
  ordered = subst (λ ks. IsStrictlySortedBy key_cmp ks) (sym (filter_map (λ k. not (is_stray_at v k)) (λ (e : Key × RecordSet). e.0) v.sets)) (IsStrictlySortedBy-filter key_cmp (λ k. not (is_stray_at v k)) (keys_of v.sets) h.ordered);
  kept = all_kept v.sets h.kept;
}
  where
    signed : (e : Key × RecordSet) (a : Bool) → (below_apex v e.0.0 && (e.0.1 == type_ds)) ≡ a → (a && not (is_some (set_at v e.0.0 type_ns))) ≡ false → (not a || is_some (set_at (close v) e.0.0 type_ns)) ≡ true
    signed e true p s = ap is_some (ns_stays v e.0.0) ∙ there (is_some (set_at v e.0.0 type_ns)) s
      where
        there : (b : Bool) → not b ≡ false → b ≡ true
        there true g = refl
        there false g = absurd (true≢false g)
    signed e false p s = refl

    all_kept : (es : Sets) → list_all (is_sound_at v) es ≡ true → list_all (is_kept (close v)) (filter (λ e. not (is_stray v e)) es) ≡ true
    all_kept [] g = refl
    all_kept (e ∷ es) g = by (is_stray v e) refl (all_kept es (second_so (is_sound_at v e) _ g))
      where
        by : (b : Bool) → is_stray v e ≡ b → list_all (is_kept (close v)) (filter (λ x. not (is_stray v x)) es) ≡ true → list_all (is_kept (close v)) (cond (not b) (e ∷ filter (λ x. not (is_stray v x)) es) (filter (λ x. not (is_stray v x)) es)) ≡ true
        by true p later = later
        by false p later = both_true (both_true (first_so (is_sound_at v e) _ g) (signed e (below_apex v e.0.0 && (e.0.1 == type_ds)) refl p)) later

-- .. or that loses nothing
pub closed_sound : (v : Version) → IsSound v → list_any (is_stray_at v) (keys_of v.sets) ≡ false → IsValid v
closed_sound v h none = subst (λ w. IsValid w) (sym (closed_is v none)) (close_sound v h)
