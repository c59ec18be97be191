-- What is left of a set that data are taken out of.
use Rattle.std.proofs.Common.{◌≡◌, ℕ, ◌≤◌, Bool, true, false, cond, ◌||◌, not, List, [], ◌∷◌, length, filter, refl, sym, ap, true≢false, Option, Some, None, option_map, is_some, arith}
use Rattle.std.specs.Option.{option_map_or}
use Rattle.std.specs.List.{list_any}
use Rattle.dns_name.specs.Names.{Name}
use Rattle.dns_rdata.specs.Records.{Field, same_data}
use Rattle.zone_model.specs.Version.{RecordSet, Version, data_at}
use Rattle.zone_model.specs.Edits.{put_set, remove_set}
use Rattle.zone_values.specs.TypedSets.{TypedSet}
use Rattle.zone_values.specs.TypedEntries.{typed}
use Rattle.zone_versions.specs.DataEdits.{thinned_set}

-- the contents of a set that is got
pub got_contents : (t : ℕ) (o : Option RecordSet) (s : TypedSet) → Some s ≡ option_map (typed t) o → Some s.contents ≡ o
got_contents t None s e = absurd (true≢false (ap is_some e))
got_contents t (Some x) s e = ap (option_map (λ (s : TypedSet). s.contents)) e

some_left : (p : List Field → Bool) (xs : List (List Field)) → list_any p xs ≡ true → 1 ≤ length (filter p xs)
some_left p [] h = absurd (true≢false (sym h))
some_left p (x ∷ xs) h = by (p x) h (λ g. some_left p xs g)
  where
    by : (b : Bool) → (b || list_any p xs) ≡ true → (list_any p xs ≡ true → 1 ≤ length (filter p xs)) → 1 ≤ length (cond b (x ∷ filter p xs) (filter p xs))
    by true g later = omega arith
    by false g later = later g

none_left : (p : List Field → Bool) (xs : List (List Field)) → list_any p xs ≡ false → filter p xs ≡ []
none_left p [] h = refl
none_left p (x ∷ xs) h = by (p x) h (λ g. none_left p xs g)
  where
    by : (b : Bool) → (b || list_any p xs) ≡ false → (list_any p xs ≡ false → filter p xs ≡ []) → cond b (x ∷ filter p xs) (filter p xs) ≡ []
    by true g later = absurd (true≢false g)
    by false g later = later g

-- others are left
pub thinned_full : (ttl : ℕ) (fields : List Field) (o : Option RecordSet) → list_any (λ d. not (same_data fields d)) (option_map_or (λ (s : RecordSet). s.items) o []) ≡ true → 1 ≤ length (thinned_set ttl fields o).items
thinned_full ttl fields o h = some_left (λ d. not (same_data fields d)) (option_map_or (λ (s : RecordSet). s.items) o []) h

-- where none are left, the set goes
pub thinned_gone : (v : Version) (n : Name) (t ttl : ℕ) (fields : List Field) → list_any (λ d. not (same_data fields d)) (data_at v n t) ≡ false
    → remove_set v n t ≡ put_set v n t (record { ttl = ttl; items = filter (λ d. not (same_data fields d)) (data_at v n t) })
thinned_gone v n t ttl fields h = ap (λ xs. put_set v n t (record { ttl = ttl; items = xs })) (sym (none_left (λ d. not (same_data fields d)) (data_at v n t) h))
