-- What data put into a set make of a version.
use Rattle.std.proofs.Common.{◌≡◌, ℕ, ◌==◌, Bool, true, false, if◌then◌else◌, List, [], ◌∷◌, ◌++◌, length, refl, sym, ap, ◌∙◌, subst, true≢false, Option, Some, None, Result, Ok, Err, IfOk, min}
use Rattle.std.specs.Option.{option_map_or}
use Rattle.std.specs.List.{list_any}
use Rattle.std.specs.BTreeMap.{insert_entry}
use Rattle.dns_name.specs.Names.{Name, fold}
use Rattle.dns_rdata.specs.Records.{Field, Record, same_data}
use Rattle.zone_model.specs.Version.{RecordSet, Version, key_cmp, set_in}
use Rattle.zone_model.specs.Classify.{lowest_ttl}
use Rattle.zone_model.specs.Edits.{with_sets, remove_set, put_set}
use Rattle.zone_values.specs.SetEdits.{put_with, last_set, opening_set}
use Rattle.zone_values.proofs.Thinning.{suc_not}
use Rattle.zone_versions.specs.Puts.{appended, opened_by}

-- a set with data is put, and does not remove
pub put_some : (v : Version) (owner : Name) (rtype : ℕ) (s : RecordSet) → (length s.items == 0) ≡ false → with_sets v (insert_entry key_cmp v.sets (fold owner, rtype) s) ≡ put_set v owner rtype s
put_some v owner rtype s h = sym (ap (λ b. if b then remove_set v owner rtype else with_sets v (insert_entry key_cmp v.sets (fold owner, rtype) s)) h)

pub pushed_some : {X : Type 0} (xs : List X) (x : X) → (length (xs ++ x ∷ []) == 0) ≡ false
pushed_some [] x = refl
pushed_some (y ∷ xs) x = suc_not (length (xs ++ x ∷ []))

any_some : {X : Type 0} (p : X → Bool) (xs : List X) → list_any p xs ≡ true → (length xs == 0) ≡ false
any_some p [] h = absurd (true≢false (sym h))
any_some p (x ∷ xs) h = suc_not (length xs)

-- data put last in a version
pub appended_is : (v : Version) (r : Record) → with_sets v (put_with (last_set r.ttl r.fields) (fold r.owner, r.rtype) v.sets) ≡ appended v r
appended_is v r = by (set_in v.sets (fold r.owner, r.rtype))
  where
    by : (o : Option RecordSet) → with_sets v (insert_entry key_cmp v.sets (fold r.owner, r.rtype) (last_set r.ttl r.fields o)) ≡ put_set v r.owner r.rtype (record { ttl = r.ttl; items = option_map_or (λ (t : RecordSet). t.items) o [] ++ r.fields ∷ [] })
    by None = put_some v r.owner r.rtype (record { ttl = r.ttl; items = r.fields ∷ [] }) refl
    by (Some s) = put_some v r.owner r.rtype (record { ttl = r.ttl; items = s.items ++ r.fields ∷ [] }) (pushed_some s.items r.fields)

abbrev items_of : Option RecordSet → List (List Field)
items_of o = option_map_or (λ (t : RecordSet). t.items) o []

-- an opening record in a version
pub opened_is : (v : Version) (r : Record) → with_sets v (put_with (opening_set r.ttl r.fields) (fold r.owner, r.rtype) v.sets) ≡ opened_by v r
opened_is v r = by (set_in v.sets (fold r.owner, r.rtype))
  where
    some : (s : RecordSet) (b : Bool) → list_any (same_data r.fields) s.items ≡ b → with_sets v (insert_entry key_cmp v.sets (fold r.owner, r.rtype) (record { ttl = min s.ttl r.ttl; items = if b then s.items else s.items ++ r.fields ∷ [] }))
        ≡ put_set v r.owner r.rtype (record { ttl = min s.ttl r.ttl; items = if b then s.items else s.items ++ r.fields ∷ [] })
    some s true h = put_some v r.owner r.rtype (record { ttl = min s.ttl r.ttl; items = s.items }) (any_some (same_data r.fields) s.items h)
    some s false h = put_some v r.owner r.rtype (record { ttl = min s.ttl r.ttl; items = s.items ++ r.fields ∷ [] }) (pushed_some s.items r.fields)

    by : (o : Option RecordSet) → with_sets v (insert_entry key_cmp v.sets (fold r.owner, r.rtype) (opening_set r.ttl r.fields o))
        ≡ put_set v r.owner r.rtype (record { ttl = lowest_ttl r o; items = if list_any (same_data r.fields) (items_of o) then items_of o else items_of o ++ r.fields ∷ [] })
    by None = put_some v r.owner r.rtype (record { ttl = r.ttl; items = r.fields ∷ [] }) refl
    by (Some s) = some s (list_any (same_data r.fields) s.items) refl

pub opening_some : (ttl : ℕ) (fields : List Field) (o : Option RecordSet) → (length (opening_set ttl fields o).items == 0) ≡ false
opening_some ttl fields None = refl
opening_some ttl fields (Some s) = by (list_any (same_data fields) s.items) refl
  where
    by : (b : Bool) → list_any (same_data fields) s.items ≡ b → (length (if b then s.items else s.items ++ fields ∷ []) == 0) ≡ false
    by true h = any_some (same_data fields) s.items h
    by false h = pushed_some s.items fields

-- an opening record put in place of its set
pub opened_put : (v : Version) (r : Record) → put_set v r.owner r.rtype (opening_set r.ttl r.fields (set_in v.sets (fold r.owner, r.rtype))) ≡ opened_by v r
opened_put v r =
    sym (put_some v r.owner r.rtype (opening_set r.ttl r.fields (set_in v.sets (fold r.owner, r.rtype))) (opening_some r.ttl r.fields (set_in v.sets (fold r.owner, r.rtype)))) ∙ opened_is v r

-- a value for Ok that equals another
pub if_ok_same : {T E V : Type 0} (r : Result T E) (f : T → V) (a b : V) → IfOk r (λ x. f x ≡ a) → a ≡ b → IfOk r (λ x. f x ≡ b)
if_ok_same (Ok x) f a b h e = h ∙ e
if_ok_same (Err e') f a b h e = tt

-- .. and has what that has
pub if_ok_holds : {T E V : Type 0} (P : V → Type 0) (r : Result T E) (f : T → V) (a : V) → IfOk r (λ x. f x ≡ a) → P a → IfOk r (λ x. P (f x))
if_ok_holds P (Ok x) f a h p = subst P (sym h) p
if_ok_holds P (Err e) f a h p = tt
