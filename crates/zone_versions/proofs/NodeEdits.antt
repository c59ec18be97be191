-- Edits of whole nodes keep a version sound.
use Rattle.std.proofs.Common.{◌≡◌, ℕ, suc, ◌≤◌, ◌==◌, Bool, true, false, cond, ◌&&◌, ◌||◌, not, if◌then◌else◌, List, [], ◌∷◌, ◌++◌, length, refl, sym, ap, ◌∙◌, subst, true≢false, Option, Some, None, is_some, unwrap_or, slice_get, map, min, eqb-true, eq-eqb, arith}
use Rattle.std.specs.Option.{option_map_or}
use Rattle.std.specs.List.{list_all, list_any, filter}
use Rattle.std.specs.List.Sorted.{IsStrictlySortedBy}
use Rattle.std.specs.BTreeMap.{insert_entry}
use Rattle.std.specs.Map.{keys_of, remove_entry}
use Rattle.std.specs.Cmp.{first_so, second_so}
use Rattle.std.specs.Cmp.Derive.{both_true}
use Rattle.std.proofs.lemmas.List.Kept.{IsStrictlySortedBy-filter}
use Rattle.dns_name.specs.Names.{Name, fold, under}
use Rattle.dns_numbers.specs.Codes.{type_a, type_cname, type_aaaa}
use Rattle.dns_rdata.specs.Records.{Field, Record, same_data}
use Rattle.dns_rdata.specs.SameData.{same_data_equiv}
use Rattle.zone_model.specs.Version.{RecordSet, Key, Version, key_cmp, has_key, set_at, data_at, below_apex, all_differ}
use Rattle.zone_model.specs.Edits.{with_sets, put_set, remove_set, distinct, distinct_set, has_data, is_bad_alias, clear, add_glue}
use Rattle.zone_model.proofs.Folded.{key_total}
use Rattle.zone_model.proofs.Ordered.{sorted-remove_entry}
use Rattle.zone_values.proofs.Equality.{filter_map}
use Rattle.zone_versions.specs.Sound.{is_sound_at, IsSound}
use Rattle.zone_versions.specs.Nodes.{put_at, is_address_in, with_glue}
use Rattle.zone_versions.proofs.Putting.{put_some, pushed_some, opening_some}
use Rattle.zone_values.proofs.Thinning.{suc_not}
use Rattle.zone_values.proofs.KeptTypes.{all_remove}
use Rattle.zone_values.proofs.FirstData.{distinct_same, distinct_differ}
use Rattle.zone_values.specs.SetEdits.{put_with, opening_set}
use Rattle.zone_versions.proofs.Distinct.{differ_push}
use Rattle.zone_versions.proofs.Sound.{data_stand, sound_put}

-- a set taken away
pub remove_sound : (v : Version) (owner : Name) (rtype : ℕ) → IsSound v → IsSound (remove_set v owner rtype)
remove_sound v owner rtype h = record { ordered = sorted-remove_entry key_total _ v.sets h.ordered; kept = all_remove (is_sound_at v) _ v.sets h.kept }

-- ---- a set put

-- a set that is no bad alias has one value at most, where it is an alias
lone : (b : Bool) (n : ℕ) → (b && not (n == 1)) ≡ false → b ≡ true → n ≤ 1
lone true n h e = by (n == 1) refl h
  where
    by : (c : Bool) → (n == 1) ≡ c → not c ≡ false → n ≤ 1
    by true p g = let one : n ≡ 1 = eqb-true n 1 p in omega arith
    by false p g = absurd (true≢false g)
lone false n h e = absurd (true≢false (sym e))

-- a set put in place of the old one
pub put_sound : (v : Version) (owner : Name) (rtype : ℕ) (s : RecordSet) → IsSound v → under owner v.apex ≡ true → all_differ s.items ≡ true → is_bad_alias v owner rtype s ≡ false → IsSound (put_set v owner rtype s)
put_sound v owner rtype s h zone differ good =
    sound_put v owner rtype s h zone differ
    (λ b. subst (λ (xs : List (List Field)). length xs ≤ 1) (distinct_same s.items differ) (lone (below_apex v owner && (rtype == type_cname)) (length (distinct s.items)) good b))

-- ---- a node cleared

all_left : {X : Type 0} (p q : X → Bool) (xs : List X) → list_all q xs ≡ true → list_all q (filter p xs) ≡ true
all_left p q [] h = refl
all_left p q (x ∷ xs) h = by (p x) (all_left p q xs (second_so (q x) (list_all q xs) h))
  where
    by : (b : Bool) → list_all q (filter p xs) ≡ true → list_all q (cond b (x ∷ filter p xs) (filter p xs)) ≡ true
    by true later = both_true (first_so (q x) (list_all q xs) h) later
    by false later = later

pub clear_sound : (v : Version) (n : Name) → IsSound v → IsSound (clear v n)
clear_sound v n h = record {
  ordered = subst (λ ks. IsStrictlySortedBy key_cmp ks) (sym (filter_map (λ (k : Key). not (under k.0 n)) (λ (e : Key × RecordSet). e.0) v.sets)) (IsStrictlySortedBy-filter key_cmp (λ (k : Key). not (under k.0 n)) (keys_of v.sets) h.ordered);
  kept = all_left (λ (e : Key × RecordSet). not (under e.0.0 n)) (is_sound_at v) v.sets h.kept;
}

-- ---- glue

-- an address is no alias
no_alias : (t : ℕ) → ((t == type_a) || (t == type_aaaa)) ≡ true → (t == type_cname) ≡ false
no_alias t h = by (t == type_cname) refl
  where
    is_address : (a b : Bool) → (t == 1) ≡ a → (t == 28) ≡ b → (a || b) ≡ true → t ≡ 5 → true ≡ false
    is_address true b p q g e = let one : t ≡ 1 = eqb-true t 1 p in absurd (omega arith)
    is_address false true p q g e = let other : t ≡ 28 = eqb-true t 28 q in absurd (omega arith)
    is_address false false p q g e = absurd (true≢false (sym g))

    by : (b : Bool) → (t == type_cname) ≡ b → b ≡ false
    by true e = is_address (t == 1) (t == 28) refl refl h (eqb-true t 5 e)
    by false e = refl

and_false : (b : Bool) → (b && false) ≡ false
and_false true = refl
and_false false = refl

not_false : (b : Bool) → not b ≡ false → b ≡ true
not_false true h = refl
not_false false h = absurd (true≢false h)

first_of_or : (a b : Bool) → (a || b) ≡ false → (a ≡ false) × (b ≡ false)
first_of_or true b h = absurd (true≢false h)
first_of_or false b h = (refl, h)

pub with_glue_sound : (v : Version) (r : Record) → IsSound v → is_address_in v r ≡ true → has_data v r ≡ false → IsSound (with_glue v r)
with_glue_sound v r h address fresh =
    sound_put v r.owner r.rtype (record { ttl = option_map_or (λ (s : RecordSet). min s.ttl r.ttl) (set_at v r.owner r.rtype) r.ttl; items = data_at v r.owner r.rtype ++ r.fields ∷ [] }) h
    (first_so (under r.owner v.apex) _ address) (differ_push (data_at v r.owner r.rtype) r.fields (data_stand v r.owner r.rtype h).differ fresh)
    (λ b. absurd (true≢false (sym b ∙ ap (λ c. below_apex v r.owner && c) (no_alias r.rtype (second_so (under r.owner v.apex) _ address)) ∙ and_false (below_apex v r.owner))))

pub glue_sound : (v : Version) (r : Record) → IsSound v → IsSound (add_glue v r)
glue_sound v r h = by (not (is_address_in v r) || has_data v r) refl
  where
    by : (b : Bool) → (not (is_address_in v r) || has_data v r) ≡ b → IsSound (if b then v else with_glue v r)
    by true e = h
    by false e =
        let both = first_of_or (not (is_address_in v r)) (has_data v r) e in
        with_glue_sound v r h (not_false _ both.0) both.1

-- ---- single edits of the sets

pub put_at_is : (v : Version) (owner : Name) (rtype : ℕ) (s : RecordSet) → with_sets v (put_at (fold owner, rtype) s v.sets) ≡ put_set v owner rtype s
put_at_is v owner rtype s = by (length s.items == 0)
  where
    by : (b : Bool) → with_sets v (if b then remove_entry (has_key (fold owner, rtype)) v.sets else insert_entry key_cmp v.sets (fold owner, rtype) s)
        ≡ (if b then remove_set v owner rtype else with_sets v (insert_entry key_cmp v.sets (fold owner, rtype) s))
    by true = refl
    by false = refl

pub glue_is : (v : Version) (r : Record) → has_data v r ≡ false → with_sets v (put_with (opening_set r.ttl r.fields) (fold r.owner, r.rtype) v.sets) ≡ with_glue v r
glue_is v r = by (set_at v r.owner r.rtype)
  where
    by : (o : Option RecordSet) → list_any (same_data r.fields) (option_map_or (λ (s : RecordSet). s.items) o []) ≡ false → with_sets v (insert_entry key_cmp v.sets (fold r.owner, r.rtype) (opening_set r.ttl r.fields o))
        ≡ put_set v r.owner r.rtype (record { ttl = option_map_or (λ (s : RecordSet). min s.ttl r.ttl) o r.ttl; items = option_map_or (λ (s : RecordSet). s.items) o [] ++ r.fields ∷ [] })
    by None h = put_some v r.owner r.rtype (record { ttl = r.ttl; items = r.fields ∷ [] }) refl
    by (Some s) h =
        ap (λ (b : Bool). with_sets v (insert_entry key_cmp v.sets (fold r.owner, r.rtype) (record { ttl = min s.ttl r.ttl; items = if b then s.items else s.items ++ r.fields ∷ [] }))) h
        ∙ put_some v r.owner r.rtype (record { ttl = min s.ttl r.ttl; items = s.items ++ r.fields ∷ [] }) (pushed_some s.items r.fields)

pub glue_put : (v : Version) (r : Record) → has_data v r ≡ false → put_set v r.owner r.rtype (opening_set r.ttl r.fields (set_at v r.owner r.rtype)) ≡ with_glue v r
glue_put v r h =
    sym (put_some v r.owner r.rtype (opening_set r.ttl r.fields (set_at v r.owner r.rtype)) (opening_some r.ttl r.fields (set_at v r.owner r.rtype))) ∙ glue_is v r h

-- ---- one value

suc_one : (n : ℕ) → (suc n == 1) ≡ (n == 0)
suc_one n = by (suc n == 1) (n == 0) refl refl
  where
    by : (a b : Bool) → (suc n == 1) ≡ a → (n == 0) ≡ b → a ≡ b
    by true true p q = refl
    by true false p q = let one : suc n ≡ 1 = eqb-true (suc n) 1 p in absurd (true≢false (sym (eq-eqb n 0 (omega (arith, one))) ∙ q))
    by false true p q = let none : n ≡ 0 = eqb-true n 0 q in absurd (true≢false (sym (eq-eqb (suc n) 1 (omega (arith, none))) ∙ p))
    by false false p q = refl

filter_empty : {X : Type 0} (p : X → Bool) (xs : List X) → (length (filter p xs) == 0) ≡ not (list_any p xs)
filter_empty p [] = refl
filter_empty p (x ∷ xs) = by (p x) (filter_empty p xs)
  where
    by : (b : Bool) → (length (filter p xs) == 0) ≡ not (list_any p xs) → (length (cond b (x ∷ filter p xs) (filter p xs)) == 0) ≡ not (b || list_any p xs)
    by true later = suc_not (length (filter p xs))
    by false later = later

-- what a filter takes away is not looked for
any_removed : {X : Type 0} (p q : X → Bool) → ((x : X) → q x ≡ false → p x ≡ false) → (xs : List X) → list_any p (filter q xs) ≡ list_any p xs
any_removed p q f [] = refl
any_removed p q f (x ∷ xs) = by (q x) refl (any_removed p q f xs)
  where
    by : (b : Bool) → q x ≡ b → list_any p (filter q xs) ≡ list_any p xs → list_any p (cond b (x ∷ filter q xs) (filter q xs)) ≡ (p x || list_any p xs)
    by true e later = ap (λ c. p x || c) later
    by false e later = later ∙ sym (ap (λ c. c || list_any p xs) (f x e))

abbrev other : List Field → List Field → Bool
other d y = not (same_data d y)

others_stay : (d : List Field) (xs : List (List Field)) → list_any (other d) (distinct xs) ≡ list_any (other d) xs
others_stay d [] = refl
others_stay d (x ∷ xs) = by (same_data d x) refl (others_stay d xs)
  where
    equal : same_data d x ≡ true → (y : List Field) → not (same_data x y) ≡ false → not (same_data d y) ≡ false
    equal h y e = ap not (same_data_equiv.congr d x y h) ∙ e

    by : (b : Bool) → same_data d x ≡ b → list_any (other d) (distinct xs) ≡ list_any (other d) xs → (not b || list_any (other d) (filter (λ y. not (same_data x y)) (distinct xs))) ≡ (not b || list_any (other d) xs)
    by true h later = any_removed (other d) (λ y. not (same_data x y)) (equal h) (distinct xs) ∙ later
    by false h later = refl

none_other : {X : Type 0} (q : X → Bool) (xs : List X) → not (list_any (λ x. not (q x)) xs) ≡ list_all q xs
none_other q [] = refl
none_other q (x ∷ xs) = by (q x) (none_other q xs)
  where
    by : (b : Bool) → not (list_any (λ y. not (q y)) xs) ≡ list_all q xs → not (not b || list_any (λ y. not (q y)) xs) ≡ (b && list_all q xs)
    by true later = later
    by false later = refl

-- data are one value where all are equal to the first
pub one_value : (d : List Field) (xs : List (List Field)) → list_all (same_data d) (d ∷ xs) ≡ (length (distinct (d ∷ xs)) == 1)
one_value d xs =
    ap (λ b. b && list_all (same_data d) xs) (same_data_equiv.refl d)
    ∙ sym (suc_one (length (filter (other d) (distinct xs))) ∙ filter_empty (other d) (distinct xs) ∙ ap not (others_stay d xs) ∙ none_other (same_data d) xs)

-- .. the first of some
all_map : {X : Type 0} (q : List Field → Bool) (f : X → List Field) (xs : List X) → list_all (λ x. q (f x)) xs ≡ list_all q (map f xs)
all_map q f [] = refl
all_map q f (x ∷ xs) = ap (λ b. q (f x) && b) (all_map q f xs)

pub one_value_of : {X : Type 0} (f : X → List Field) (xs : List X) (x : X) → Some x ≡ slice_get xs 0 → list_all (λ y. same_data (f x) (f y)) xs ≡ (length (distinct (map f xs)) == 1)
one_value_of f [] x h = absurd (true≢false (ap is_some h))
one_value_of f (y ∷ ys) x h =
    let same : x ≡ y = ap (λ o. unwrap_or o x) h in
    ap (λ z. list_all (λ w. same_data (f z) (f w)) (y ∷ ys)) same ∙ all_map (same_data (f y)) f (y ∷ ys) ∙ one_value (f y) (map f ys)

-- ---- aliases

-- the first of equal data are as good
pub alias_first : (v : Version) (owner : Name) (rtype : ℕ) (s : RecordSet) → is_bad_alias v owner rtype (distinct_set s) ≡ is_bad_alias v owner rtype s
alias_first v owner rtype s =
    ap (λ (xs : List (List Field)). below_apex v owner && (rtype == type_cname) && not (length xs == 1)) (distinct_same (distinct s.items) (distinct_differ s.items))

pub one_is_good : (v : Version) (owner : Name) (rtype ttl : ℕ) (d : List Field) → is_bad_alias v owner rtype (record { ttl = ttl; items = d ∷ [] }) ≡ false
one_is_good v owner rtype ttl d = and_false (below_apex v owner && (rtype == type_cname))

-- a set of another type is no alias
pub other_type : (v : Version) (owner : Name) (rtype : ℕ) (s : RecordSet) → (rtype == type_cname) ≡ false → is_bad_alias v owner rtype s ≡ false
other_type v owner rtype s h = ap (λ b. below_apex v owner && b && not (length (distinct s.items) == 1)) h ∙ ap (λ b. b && not (length (distinct s.items) == 1)) (and_false (below_apex v owner))
