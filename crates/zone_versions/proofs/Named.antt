-- Nodes kept by the keys of their names.
use Rattle.std.proofs.Common.{◌≡◌, ℕ, Bool, true, false, cond, ◌&&◌, ◌||◌, ◌==◌, not, length, List, [], ◌∷◌, filter, refl, sym, ap, ◌∙◌, subst, Ordering, Less, Equal, Greater, Some, is_some, is_eq, is_le, Result, Ok, Err, OnOk, OnErr, is_ok, if◌then◌else◌}
use Rattle.std.specs.Ordering.{match_ordering}
use Rattle.std.specs.List.{list_any}
use Rattle.std.specs.List.Sorted.{IsStrictlySortedBy}
use Rattle.std.specs.Cmp.Lexicographic.{nat_list_cmp_total}
use Rattle.std.specs.BTreeMap.{insert_entry, is_at}
use Rattle.std.specs.Map.{lookup, keys_of}
use Rattle.dns_name.specs.Names.{Name, fold, under, canonical_cmp, spelling_cmp, is_name}
use Rattle.name_keys.specs.NameKeys.{name_key, name_of_key, IsNameKey}
use Rattle.name_keys.proofs.KeyOrder.{names_order}
use Rattle.name_keys.proofs.Nesting.{under_by_test}
use Rattle.name_keys.proofs.Reading.{read_back}
use Rattle.paged_map.specs.Octets.{octets_cmp, begins_with}
use Rattle.zone_model.proofs.Folded.{fold-fold, under_alike}
use Rattle.zone_model.proofs.Ordered.{sorted-insert_entry}
use Rattle.std.proofs.lemmas.List.Kept.{IsStrictlySortedBy-filter}
use Rattle.zone_versions.specs.Trees.{NodeSets, node_at}
use Rattle.zone_versions.specs.Ways.{put_node, any_held}
use Rattle.zone_versions.specs.Keyed.{Keyed, named, AreKeys, holds_besides}
use Rattle.zone_versions.proofs.Scan.{any_emptied, and_false}

-- the name of a key compares as the key does
pub compared : (n : Name) (k : List ℕ) → IsNameKey k → octets_cmp (name_key n) k ≡ canonical_cmp n (name_of_key k)
compared n k h =
    let m : Name = h.0 in
    ap (octets_cmp (name_key n)) (sym h.2) ∙ names_order n m ∙ ap (spelling_cmp (fold n)) (sym (fold-fold m)) ∙ ap (λ x. spelling_cmp (fold n) (fold x)) (sym (read_back m) ∙ ap name_of_key h.2)

pub nested : (k : List ℕ) (n : Name) → IsNameKey k → begins_with k (name_key n) ≡ under (name_of_key k) n
nested k n h =
    let m : Name = h.0 in
    ap (λ x. begins_with x (name_key n)) (sym h.2) ∙ sym (under_by_test m n) ∙ sym (under_alike (fold m) m n n (fold-fold m) refl) ∙ ap (λ x. under x n) (sym (read_back m) ∙ ap name_of_key h.2)

pub get_named : (es : Keyed) (n : Name) → AreKeys es → lookup (is_at (octets_cmp (name_key n))) es ≡ node_at (named es) n
get_named [] n a = refl
get_named (e ∷ es) n a = (λ i. cond (is_eq (compared n e.0 a.0 i)) (Some e.1) (get_named es n a.1 i))

pub first_named : (es : Keyed) (n : Name) (e : List ℕ × NodeSets) (rest : Keyed) → AreKeys es → es ≡ e ∷ rest → is_eq (octets_cmp (name_key n) e.0) ≡ true → is_some (node_at (named es) n) ≡ true
first_named es n e rest a q h =
    ap is_some (sym (get_named es n a)) ∙ ap (λ l. is_some (lookup (is_at (octets_cmp (name_key n))) l)) q
    ∙ ap (λ b. is_some (cond b (Some e.1) (lookup (is_at (octets_cmp (name_key n))) rest))) h

pub insert_named : (es : Keyed) (n : Name) (held : NodeSets) → fold n ≡ n → AreKeys es → named (insert_entry octets_cmp es (name_key n) held) ≡ put_node (named es) n held
insert_named [] n held f a = ap (λ m. (m, held) ∷ []) (read_back n ∙ f)
insert_named (e ∷ es) n held f a = by (octets_cmp (name_key n) e.0) (insert_named es n held f a.1) ∙ ap (λ o. match_ordering o ((n, held) ∷ named (e ∷ es)) ((name_of_key e.0, held) ∷ named es) ((name_of_key e.0, e.1) ∷ put_node (named es) n held)) (compared n e.0 a.0)
  where
    by : (o : Ordering) → named (insert_entry octets_cmp es (name_key n) held) ≡ put_node (named es) n held
        → named (match_ordering o ((name_key n, held) ∷ e ∷ es) ((e.0, held) ∷ es) (e ∷ insert_entry octets_cmp es (name_key n) held))
        ≡ match_ordering o ((n, held) ∷ named (e ∷ es)) ((name_of_key e.0, held) ∷ named es) ((name_of_key e.0, e.1) ∷ put_node (named es) n held)
    by Less h = ap (λ m. (m, held) ∷ named (e ∷ es)) (read_back n ∙ f)
    by Equal h = refl
    by Greater h = ap (λ l. (name_of_key e.0, e.1) ∷ l) h

pub keys_insert : (es : Keyed) (n : Name) (held : NodeSets) → is_name n ≡ true → AreKeys es → AreKeys (insert_entry octets_cmp es (name_key n) held)
keys_insert [] n held h a = ((n, h, refl), tt)
keys_insert (e ∷ es) n held h a =
    elim (octets_cmp (name_key n) e.0) as (λ o. AreKeys (match_ordering o ((name_key n, held) ∷ e ∷ es) ((e.0, held) ∷ es) (e ∷ insert_entry octets_cmp es (name_key n) held))) [
      | Less ↦ ((n, h, refl), a)
      | Equal ↦ a
      | Greater ↦ (a.0, keys_insert es n held h a.1)
    ]

pub filter_named : (es : Keyed) (n : Name) → AreKeys es → named (filter (λ (e : List ℕ × NodeSets). not (begins_with e.0 (name_key n))) es) ≡ filter (λ (e : Name × NodeSets). not (under e.0 n)) (named es)
filter_named [] n a = refl
filter_named (e ∷ es) n a = by (begins_with e.0 (name_key n)) (filter_named es n a.1) ∙ ap (λ b. cond (not b) ((name_of_key e.0, e.1) ∷ filter (λ (f : Name × NodeSets). not (under f.0 n)) (named es)) (filter (λ (f : Name × NodeSets). not (under f.0 n)) (named es))) (nested e.0 n a.0)
  where
    by : (b : Bool) → named (filter (λ (f : List ℕ × NodeSets). not (begins_with f.0 (name_key n))) es) ≡ filter (λ (f : Name × NodeSets). not (under f.0 n)) (named es)
        → named (cond (not b) (e ∷ filter (λ (f : List ℕ × NodeSets). not (begins_with f.0 (name_key n))) es) (filter (λ (f : List ℕ × NodeSets). not (begins_with f.0 (name_key n))) es))
        ≡ cond (not b) ((name_of_key e.0, e.1) ∷ filter (λ (f : Name × NodeSets). not (under f.0 n)) (named es)) (filter (λ (f : Name × NodeSets). not (under f.0 n)) (named es))
    by true h = h
    by false h = ap (λ l. (name_of_key e.0, e.1) ∷ l) h

pub keys_filter : (p : List ℕ × NodeSets → Bool) (es : Keyed) → AreKeys es → AreKeys (filter p es)
keys_filter p [] a = a
keys_filter p (e ∷ es) a =
    elim (p e) as (λ b. AreKeys (cond b (e ∷ filter p es) (filter p es))) [
      | true ↦ (a.0, keys_filter p es a.1)
      | false ↦ keys_filter p es a.1
    ]

-- ---- after a step that may fail

pub on_ok : {T E : Type 0} {A B : Type 0} (r : Result T E) → (A → B) → OnOk r A → OnOk r B
on_ok (Ok x) f h = f h
on_ok (Err e) f h = h

pub on_both : {T E : Type 0} {A B C : Type 0} (r : Result T E) → (A → B → C) → OnOk r A → OnOk r B → OnOk r C
on_both (Ok x) f h g = f h g
on_both (Err e) f h g = h

pub on_err : {T E : Type 0} {A B : Type 0} (r : Result T E) → (A → B) → OnErr r A → OnErr r B
on_err (Ok x) f h = h
on_err (Err e) f h = f h

pub was_ok : {T E A : Type 0} (r : Result T E) (x : T) → r ≡ Ok x → OnOk r A → A
was_ok {A = A} r x e h = subst (λ s. OnOk s A) e h

-- the count after an edit, which is kept where that succeeded
pub counted_ok : {T E : Type 0} (r : Result T E) (kept : Bool) (now was before wanted : ℕ) → kept ≡ is_ok r → now ≡ (if kept then was else before) → OnOk r (was ≡ wanted) → OnOk r (now ≡ wanted)
counted_ok (Ok x) kept now was before wanted e k h = k ∙ ap (λ b. if b then was else before) e ∙ h
counted_ok (Err x) kept now was before wanted e k h = h

pub counted_err : {T E : Type 0} (r : Result T E) (kept : Bool) (now was before old : ℕ) → kept ≡ is_ok r → now ≡ (if kept then was else before) → before ≡ old → OnErr r (now ≡ old)
counted_err (Ok x) kept now was before old e k h = tt
counted_err (Err x) kept now was before old e k h = k ∙ ap (λ b. if b then was else before) e ∙ h

-- what entries of a map are
abbrev pub AreKept : Keyed → Type 0
AreKept es = AreKeys es × IsStrictlySortedBy octets_cmp (keys_of es)

-- the entries are new or as before, and what both are, they are
pub either_kept : {T E : Type 0} (r : Result T E) (now made old : Keyed) → OnOk r (now ≡ made) → OnErr r (now ≡ old) → AreKept made → AreKept old → AreKept now
either_kept (Ok x) now made old h g a b = subst AreKept (sym h) a
either_kept (Err e) now made old h g a b = subst AreKept (sym g) b

-- ---- sets held besides those of an owner

any_named : (es : Keyed) (n : Name) → AreKeys es → any_held (named es) n ≡ list_any (λ (e : List ℕ × NodeSets). begins_with e.0 (name_key n) && not (length e.1 == 0)) es
any_named [] n a = refl
any_named (e ∷ es) n a = λ i. (sym (nested e.0 n a.0) i && not (length e.1 == 0)) || any_named es n a.1 i

pub held_besides : (es : Keyed) (n owner : Name) → fold owner ≡ owner → is_name owner ≡ true → AreKeys es → IsStrictlySortedBy octets_cmp (keys_of es)
    → any_held (put_node (named es) owner []) n ≡ list_any (holds_besides (name_key n) (name_key owner)) es
held_besides es n owner f h a s =
    ap (λ nodes. any_held nodes n) (sym (insert_named es owner [] f a)) ∙ any_named (insert_entry octets_cmp es (name_key owner) []) n (keys_insert es owner [] h a)
    ∙ any_emptied (λ e. begins_with e.0 (name_key n) && not (length e.1 == 0)) (λ k. and_false (begins_with k (name_key n))) (name_key owner) es s

-- ---- order

pub sorted_insert : (es : Keyed) (k : List ℕ) (held : NodeSets) → IsStrictlySortedBy octets_cmp (keys_of es) → IsStrictlySortedBy octets_cmp (keys_of (insert_entry octets_cmp es k held))
sorted_insert es k held s = sorted-insert_entry nat_list_cmp_total es k held s

pub sorted_filter : (p : List ℕ → Bool) (es : Keyed) → IsStrictlySortedBy octets_cmp (keys_of es) → IsStrictlySortedBy octets_cmp (keys_of (filter (λ (e : List ℕ × NodeSets). p e.0) es))
sorted_filter p es s = subst (IsStrictlySortedBy octets_cmp) (sym (keys_filtered p es)) (IsStrictlySortedBy-filter octets_cmp p (keys_of es) s)
  where
    keys_filtered : (p : List ℕ → Bool) (es : Keyed) → keys_of (filter (λ (e : List ℕ × NodeSets). p e.0) es) ≡ filter p (keys_of es)
    keys_filtered p [] = refl
    keys_filtered p (e ∷ es) =
        elim (p e.0) as (λ b. keys_of (cond b (e ∷ filter (λ (f : List ℕ × NodeSets). p f.0) es) (filter (λ (f : List ℕ × NodeSets). p f.0) es)) ≡ cond b (e.0 ∷ filter p (keys_of es)) (filter p (keys_of es))) [
          | true ↦ ap (λ l. e.0 ∷ l) (keys_filtered p es)
          | false ↦ keys_filtered p es
        ]

-- ---- from a name on

pub from_named : (es : Keyed) (n : Name) → AreKeys es → named (filter (λ (e : List ℕ × NodeSets). is_le (octets_cmp (name_key n) e.0)) es) ≡ filter (λ (e : Name × NodeSets). is_le (canonical_cmp n e.0)) (named es)
from_named [] n a = refl
from_named (e ∷ es) n a =
    by (octets_cmp (name_key n) e.0) (from_named es n a.1)
    ∙ ap (λ o. cond (is_le o) ((name_of_key e.0, e.1) ∷ filter (λ (f : Name × NodeSets). is_le (canonical_cmp n f.0)) (named es)) (filter (λ (f : Name × NodeSets). is_le (canonical_cmp n f.0)) (named es))) (compared n e.0 a.0)
  where
    by : (o : Ordering) → named (filter (λ (f : List ℕ × NodeSets). is_le (octets_cmp (name_key n) f.0)) es) ≡ filter (λ (f : Name × NodeSets). is_le (canonical_cmp n f.0)) (named es)
        → named (cond (is_le o) (e ∷ filter (λ (f : List ℕ × NodeSets). is_le (octets_cmp (name_key n) f.0)) es) (filter (λ (f : List ℕ × NodeSets). is_le (octets_cmp (name_key n) f.0)) es))
        ≡ cond (is_le o) ((name_of_key e.0, e.1) ∷ filter (λ (f : Name × NodeSets). is_le (canonical_cmp n f.0)) (named es)) (filter (λ (f : Name × NodeSets). is_le (canonical_cmp n f.0)) (named es))
    by Less h = ap (λ l. (name_of_key e.0, e.1) ∷ l) h
    by Equal h = ap (λ l. (name_of_key e.0, e.1) ∷ l) h
    by Greater h = h
