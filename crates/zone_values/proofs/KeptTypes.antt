-- Entries whose sets are seen without their type.
use Rattle.std.proofs.Common.{◌≡◌, ℕ, Bool, true, false, cond, List, [], ◌∷◌, map, find, refl, sym, ap, ◌∙◌, Ordering, Less, Equal, Greater, Some, None, option_map, is_eq, eqb-true}
use Rattle.std.specs.List.{list_all}
use Rattle.std.specs.Ordering.{match_ordering}
use Rattle.std.specs.Cmp.{first_so, second_so}
use Rattle.std.specs.Cmp.Derive.{both_true}
use Rattle.std.specs.BTreeMap.{insert_entry}
use Rattle.std.specs.Map.{keys_of, lookup, remove_entry}
use Rattle.zone_model.specs.Version.{RecordSet, Key, key_cmp, has_key, set_in}
use Rattle.zone_model.proofs.Entries.{seen-insert_entry, seen-remove_entry, seen-lookup}
use Rattle.zone_model.proofs.Folded.{key_from_tie}
use Rattle.zone_values.specs.TypedSets.{TypedSet}
use Rattle.zone_values.specs.TypedEntries.{typed, item_of, entry_of, has_own_type, typed_set_in}

abbrev pub TypedEntries : Type 0
TypedEntries = List (Key × TypedSet)

-- ---- what is seen after an edit

pub insert_seen : (es : TypedEntries) (k : Key) (s : TypedSet) → map entry_of (insert_entry key_cmp es k s) ≡ insert_entry key_cmp (map entry_of es) k s.contents
insert_seen es k s = seen-insert_entry (λ (t : TypedSet). t.contents) key_cmp es k s

pub remove_seen : (test : Key → Bool) (es : TypedEntries) → map entry_of (remove_entry test es) ≡ remove_entry test (map entry_of es)
remove_seen test es = seen-remove_entry (λ (t : TypedSet). t.contents) test es

pub keys_seen : (es : TypedEntries) → keys_of (map entry_of es) ≡ keys_of es
keys_seen [] = refl
keys_seen (e ∷ es) = ap (λ l. e.0 ∷ l) (keys_seen es)

-- ---- each set of its key's type

pub typed_is : (s : TypedSet) (k : ℕ) → s.rtype ≡ k → s ≡ typed k s.contents
typed_is s k e = ap (λ n. typed n s.contents) e

pub first_own : (e : Key × TypedSet) (es : TypedEntries) → list_all has_own_type (e ∷ es) ≡ true → e.1.rtype ≡ e.0.1
first_own e es h = eqb-true e.1.rtype e.0.1 (first_so (has_own_type e) (list_all has_own_type es) h)

pub rest_own : (e : Key × TypedSet) (es : TypedEntries) → list_all has_own_type (e ∷ es) ≡ true → list_all has_own_type es ≡ true
rest_own e es h = second_so (has_own_type e) (list_all has_own_type es) h

item_is : (e : Key × TypedSet) → e.1.rtype ≡ e.0.1 → e ≡ item_of (entry_of e)
item_is e type = ap (λ (s : TypedSet). (e.0, s)) (typed_is e.1 e.0.1 type)

-- an entry is the item of what is seen of it
pub items_seen : (es : TypedEntries) → list_all has_own_type es ≡ true → es ≡ map item_of (map entry_of es)
items_seen [] h = refl
items_seen (e ∷ es) h = (λ i. item_is e (first_own e es h) i ∷ items_seen es (rest_own e es h) i)

-- the set at a key has the key's type
pub lookup_seen : (es : TypedEntries) (k : Key) → list_all has_own_type es ≡ true → lookup (has_key k) es ≡ typed_set_in (map entry_of es) k
lookup_seen [] k h = refl
lookup_seen (e ∷ es) k h = by (key_cmp k e.0) refl (lookup_seen es k (rest_own e es h))
  where
    by : (o : Ordering) → key_cmp k e.0 ≡ o → lookup (has_key k) es ≡ option_map (typed k.1) (set_in (map entry_of es) k)
        → cond (is_eq o) (Some e.1) (lookup (has_key k) es) ≡ option_map (typed k.1) (cond (is_eq o) (Some e.1.contents) (set_in (map entry_of es) k))
    by Less q later = later
    by Equal q later = ap Some (typed_is e.1 k.1 (first_own e es h ∙ sym (key_from_tie k e.0 q).1))
    by Greater q later = later

-- what isn't there can't be found
pub absent_seen : (es : TypedEntries) (k : Key) → lookup (has_key k) es ≡ None → set_in (map entry_of es) k ≡ None
absent_seen es k none = seen-lookup (λ (t : TypedSet). t.contents) (has_key k) es ∙ ap (option_map (λ (t : TypedSet). t.contents)) none

-- the first set at which a test of keys says yes
pub find_seen : (p : Key → Bool) (es : TypedEntries) → list_all has_own_type es ≡ true → find (λ (e : Key × TypedSet). p e.0) es ≡ option_map item_of (find (λ (e : Key × RecordSet). p e.0) (map entry_of es))
find_seen p [] h = refl
find_seen p (e ∷ es) h = by (p e.0) (find_seen p es (rest_own e es h))
  where
    by : (b : Bool) → find (λ (f : Key × TypedSet). p f.0) es ≡ option_map item_of (find (λ (f : Key × RecordSet). p f.0) (map entry_of es))
        → cond b (Some e) (find (λ (f : Key × TypedSet). p f.0) es) ≡ option_map item_of (cond b (Some (entry_of e)) (find (λ (f : Key × RecordSet). p f.0) (map entry_of es)))
    by true later = ap Some (item_is e (first_own e es h))
    by false later = later

-- ---- what edits keep of all entries

pub all_insert : {X : Type 0} (p : Key × X → Bool) (es : List (Key × X)) (k : Key) (s : X) → p (k, s) ≡ true → ((e : Key × X) → p e ≡ true → key_cmp k e.0 ≡ Equal → p (e.0, s) ≡ true)
    → list_all p es ≡ true → list_all p (insert_entry key_cmp es k s) ≡ true
all_insert p [] k s g same h = both_true g refl
all_insert p (e ∷ es) k s g same h = by (key_cmp k e.0) refl (all_insert p es k s g same (second_so (p e) (list_all p es) h))
  where
    by : (o : Ordering) → key_cmp k e.0 ≡ o → list_all p (insert_entry key_cmp es k s) ≡ true → list_all p (match_ordering o ((k, s) ∷ e ∷ es) ((e.0, s) ∷ es) (e ∷ insert_entry key_cmp es k s)) ≡ true
    by Less q later = both_true g h
    by Equal q later = both_true (same e (first_so (p e) (list_all p es) h) q) (second_so (p e) (list_all p es) h)
    by Greater q later = both_true (first_so (p e) (list_all p es) h) later

pub all_remove : {X : Type 0} (p : Key × X → Bool) (test : Key → Bool) (es : List (Key × X)) → list_all p es ≡ true → list_all p (remove_entry test es) ≡ true
all_remove p test [] h = refl
all_remove p test (e ∷ es) h = by (test e.0) (all_remove p test es (second_so (p e) (list_all p es) h))
  where
    by : (b : Bool) → list_all p (remove_entry test es) ≡ true → list_all p (cond b es (e ∷ remove_entry test es)) ≡ true
    by true later = second_so (p e) (list_all p es) h
    by false later = both_true (first_so (p e) (list_all p es) h) later
