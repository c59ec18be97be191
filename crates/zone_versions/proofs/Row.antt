-- The RRsets of a node in a row by type: look-ups and edits at the place where a type stands or belongs.
use Rattle.std.proofs.Common.{◌≡◌, ◌≢◌, ℕ, zero, suc, ◌≤◌, ◌<◌, Bool, true, false, cond, List, [], ◌∷◌, take, drop, insert, remove, slice_set, get_or, length, refl, sym, ap, ◌∙◌, subst, arith, true≢false, Ordering, Less, Equal, Greater, Option, Some, None, IfSome, Result, Ok, Err, Bor, option_copied, OnOk, OnErr, le-leb, is_some, is_eq, option_map, slice_get, unwrap_or, nat_cmp}
use Rattle.std.specs.Ordering.{match_ordering, MatchOrdering}
use Rattle.std.specs.Cmp.{nat_cmp_total, nat_cmp_is, ranks}
use Rattle.std.specs.List.{AllByRecursion}
use Rattle.std.specs.List.Sorted.{IsStrictlySortedBy}
use Rattle.std.specs.BTreeMap.{insert_entry, is_at}
use Rattle.std.specs.Map.{keys_of, lookup, remove_entry}
use Rattle.std.proofs.lemmas.List.{set-get_or}
use Rattle.std.specs.Slice.{IsItemAt}
use Rattle.std.proofs.lemmas.Option.{slice_get_past, slice_get_read}
use Rattle.std.proofs.lemmas.Map.{lookup-none}
use Rattle.std.proofs.lemmas.Map.Keys.{sorted_tail}
use Rattle.std.proofs.lemmas.Map.Entries.{none_below_head}
use Rattle.zone_model.specs.Version.{RecordSet}
use Rattle.zone_values.specs.TypedSets.{TypedSet}
use Rattle.zone_values.specs.TypedEntries.{typed}
use Rattle.zone_versions.specs.Trees.{NodeSets, IsHeld}
use Rattle.zone_versions.specs.Held.{held_of, typed_sets, typed_set_of, after_type}
use Rattle.zone_versions.proofs.Kept.{nothing_held, held_insert}
use Rattle.zone_versions.proofs.Walked.{after_typed, types_of, typed_types, typed_after, all_after, not_after, later, not_later}

-- all of these are of types below a number
abbrev pub Below : ℕ → List TypedSet → Type 0
Below t xs = AllByRecursion (λ (s : TypedSet). s.rtype < t) xs

-- the type of the RRset at a place
abbrev pub type_at : List TypedSet → ℕ → Option ℕ
type_at xs at = option_map (λ (s : TypedSet). s.rtype) (slice_get xs at)

earlier : (t u : ℕ) → u < t → nat_cmp t u ≡ Greater
earlier t u h = sym (nat_cmp_is t u Greater h)

tied : (t u : ℕ) → u ≡ t → nat_cmp t u ≡ Equal
tied t u h = sym (nat_cmp_is t u Equal (sym h))

is_type : (t u : ℕ) → Some u ≡ Some t → u ≡ t
is_type t u h = ap (λ o. unwrap_or o t) h

-- sets told and held are the same
pub typed_back : (xs : List TypedSet) → typed_sets (held_of xs) ≡ xs
typed_back [] = refl
typed_back (x ∷ xs) = ap (λ l. x ∷ l) (typed_back xs)

pub row_types : (xs : List TypedSet) → keys_of (held_of xs) ≡ types_of xs
row_types xs = sym (typed_types (held_of xs)) ∙ ap types_of (typed_back xs)

-- one more of types below a number
pub below_more : (t : ℕ) (xs : List TypedSet) (at : ℕ) → Below t (take at xs) → IfSome (slice_get xs at) (λ s. s.rtype < t) → Below t (take (suc at) xs)
below_more t [] zero b f = tt
below_more t [] (suc at) b f = tt
below_more t (x ∷ xs) zero b f = (f, tt)
below_more t (x ∷ xs) (suc at) b f = (b.0, below_more t xs at b.1 f)

-- a type at or after another, and not that
pub past : (t : ℕ) (o : Option TypedSet) → IfSome o (λ s. t ≤ s.rtype) → option_map (λ (s : TypedSet). s.rtype) o ≢ Some t → IfSome o (λ s. t < s.rtype)
past t None f g = tt
past t (Some s) f g = by (nat_cmp t s.rtype) (ranks t s.rtype)
  where
    by : (r : Ordering) → MatchOrdering r (t < s.rtype) (t ≡ s.rtype) (s.rtype < t) → t < s.rtype
    by Less k = k
    by Equal k = absurd (g (ap Some (sym k)))
    by Greater k = absurd (omega (arith, f, k))

-- what is known of equal rows
pub below_of : {ys xs : List TypedSet} (at t : ℕ) → ys ≡ xs → Below t (take at ys) → Below t (take at xs)
below_of at t e b = subst (λ l. Below t (take at l)) e b

pub from_of : {ys xs : List TypedSet} (at t : ℕ) → ys ≡ xs → IfSome (slice_get ys at) (λ s. t ≤ s.rtype) → IfSome (slice_get xs at) (λ s. t ≤ s.rtype)
from_of at t e f = subst (λ l. IfSome (slice_get l at) (λ (s : TypedSet). t ≤ s.rtype)) e f

pub ascend_of : (xs : List TypedSet) → IsHeld (held_of xs) → IsStrictlySortedBy nat_cmp (types_of xs)
ascend_of xs held = subst (IsStrictlySortedBy nat_cmp) (row_types xs) held.ordered

-- what a look at a place gives
pub got : (xs : List TypedSet) (at : ℕ) (r : Option (Bor TypedSet)) → IsItemAt xs at r → option_copied r ≡ slice_get xs at
got xs at None h = sym (slice_get_past xs at h.3)
got xs at (Some x) h = sym (slice_get_read xs (length xs) at x.now refl h.3.0 h.1)

-- ---- look-ups

pub found_at : (xs : List TypedSet) (at t : ℕ) (s : TypedSet) → Below t (take at xs) → slice_get xs at ≡ Some s → s.rtype ≡ t → lookup (is_at (nat_cmp t)) (held_of xs) ≡ Some s.contents
found_at [] at t s b h e = absurd (true≢false (sym (ap is_some h)))
found_at (x ∷ xs) zero t s b h e =
    ap (λ o. cond (is_eq o) (Some x.contents) (lookup (is_at (nat_cmp t)) (held_of xs))) (tied t x.rtype (ap (λ o. (unwrap_or o s).rtype) h ∙ e))
    ∙ ap (λ o. Some (unwrap_or o s).contents) h
found_at (x ∷ xs) (suc at) t s b h e =
    ap (λ o. cond (is_eq o) (Some x.contents) (lookup (is_at (nat_cmp t)) (held_of xs))) (earlier t x.rtype b.0) ∙ found_at xs at t s b.1 h e

pub absent_at : (xs : List TypedSet) (at t : ℕ) → IsStrictlySortedBy nat_cmp (types_of xs) → Below t (take at xs) → IfSome (slice_get xs at) (λ s. t < s.rtype) → lookup (is_at (nat_cmp t)) (held_of xs) ≡ None
absent_at [] at t sorted b f = refl
absent_at (x ∷ xs) zero t sorted b f =
    lookup-none _ (held_of (x ∷ xs)) (none_below_head nat_cmp_total t (x.rtype, x.contents) (held_of xs) (subst (IsStrictlySortedBy nat_cmp) (sym (row_types (x ∷ xs))) sorted) (later t x.rtype f))
absent_at (x ∷ xs) (suc at) t sorted b f =
    ap (λ o. cond (is_eq o) (Some x.contents) (lookup (is_at (nat_cmp t)) (held_of xs))) (earlier t x.rtype b.0) ∙ absent_at xs at t (sorted_tail nat_cmp x.rtype (types_of xs) sorted) b.1 f

pub found_typed : (xs : List TypedSet) (at t : ℕ) (s : TypedSet) → Below t (take at xs) → slice_get xs at ≡ Some s → s.rtype ≡ t → Some s ≡ typed_set_of (held_of xs) t
found_typed xs at t s b h e = ap (λ n. Some (typed n s.contents)) e ∙ sym (ap (option_map (typed t)) (found_at xs at t s b h e))

pub absent_typed : (xs : List TypedSet) (at t : ℕ) → IsStrictlySortedBy nat_cmp (types_of xs) → Below t (take at xs) → IfSome (slice_get xs at) (λ s. t < s.rtype) → None ≡ typed_set_of (held_of xs) t
absent_typed xs at t sorted b f = sym (ap (option_map (typed t)) (absent_at xs at t sorted b f))

-- a type that has a set has it at its place
pub type_there : (xs : List TypedSet) (at t : ℕ) → IsStrictlySortedBy nat_cmp (types_of xs) → Below t (take at xs) → IfSome (slice_get xs at) (λ s. t ≤ s.rtype)
    → is_some (lookup (is_at (nat_cmp t)) (held_of xs)) ≡ true → type_at xs at ≡ Some t
type_there xs at t sorted b f h = by (slice_get xs at) refl f
  where
    none : IfSome (slice_get xs at) (λ s. t < s.rtype) → ⊥
    none g = true≢false (sym h ∙ ap is_some (absent_at xs at t sorted b g))

    by : (o : Option TypedSet) → slice_get xs at ≡ o → IfSome o (λ s. t ≤ s.rtype) → option_map (λ (s : TypedSet). s.rtype) o ≡ Some t
    by None e g = absurd (none (subst (λ o. IfSome o (λ s. t < s.rtype)) (sym e) tt))
    by (Some s) e g = ranked (nat_cmp t s.rtype) (ranks t s.rtype)
      where
        ranked : (r : Ordering) → MatchOrdering r (t < s.rtype) (t ≡ s.rtype) (s.rtype < t) → Some s.rtype ≡ Some t
        ranked Less k = absurd (none (subst (λ o. IfSome o (λ s. t < s.rtype)) (sym e) k))
        ranked Equal k = ap Some (sym k)
        ranked Greater k = absurd (omega (arith, g, k))

-- a type that has a set has it at its place, by what is known of an equal row
pub there_of : {ys xs : List TypedSet} (at t : ℕ) → ys ≡ xs → IsHeld (held_of xs) → Below t (take at ys) → IfSome (slice_get ys at) (λ s. t ≤ s.rtype) → is_some (lookup (is_at (nat_cmp t)) (held_of xs)) ≡ true → type_at xs at ≡ Some t
there_of {xs = xs} at t e held b f h = type_there xs at t (ascend_of xs held) (below_of at t e b) (from_of at t e f) h

pub place_within : (xs : List TypedSet) (at t : ℕ) → type_at xs at ≡ Some t → at < length xs
place_within [] at t h = absurd (true≢false (sym (ap is_some h)))
place_within (x ∷ xs) zero t h = omega arith
place_within (x ∷ xs) (suc at) t h = let k = place_within xs at t h in omega (arith, k)

pub its_type : (xs : List TypedSet) (at t : ℕ) (s : TypedSet) → slice_get xs at ≡ Some s → type_at xs at ≡ Some t → s.rtype ≡ t
its_type xs at t s h e = is_type t s.rtype (sym (ap (option_map (λ (x : TypedSet). x.rtype)) h) ∙ e)

-- what stands at its place is a type's set
pub typed_there : (xs : List TypedSet) (at t : ℕ) → Below t (take at xs) → type_at xs at ≡ Some t → slice_get xs at ≡ typed_set_of (held_of xs) t
typed_there xs at t b h = by (slice_get xs at) refl h
  where
    by : (o : Option TypedSet) → slice_get xs at ≡ o → option_map (λ (s : TypedSet). s.rtype) o ≡ Some t → o ≡ typed_set_of (held_of xs) t
    by None e k = absurd (true≢false (sym (ap is_some k)))
    by (Some s) e k = found_typed xs at t s b e (is_type t s.rtype k)

-- ---- a node of the sets

pub one_held : (s : TypedSet) → 1 ≤ length s.contents.items → IsHeld (held_of (s ∷ []))
one_held s full = held_insert [] s.rtype s.contents (le-leb 1 (length s.contents.items) full) nothing_held

pub held_edited : {T E : Type 0} (r : Result T E) (now xs : List TypedSet) (t : ℕ) (s : RecordSet) → 1 ≤ length s.items → OnOk r (held_of now ≡ insert_entry nat_cmp (held_of xs) t s) → OnErr r (now ≡ xs) → IsHeld (held_of xs) → IsHeld (held_of now)
held_edited (Ok x) now xs t s full ok err is = subst IsHeld (sym ok) (held_insert (held_of xs) t s (le-leb 1 (length s.items) full) is)
held_edited (Err e) now xs t s full ok err is = subst (λ l. IsHeld (held_of l)) (sym err) is

-- ---- edits

-- what stands at a place put there again
pub set_again : (xs : List TypedSet) (at : ℕ) (e w : TypedSet) → w ≡ e → e ≡ get_or xs at e → slice_set xs at w ≡ xs
set_again xs at e w is read = ap (slice_set xs at) (is ∙ read) ∙ set-get_or xs at e

abbrev over : ℕ → RecordSet → TypedSet → List TypedSet → Ordering → NodeSets
over t c x xs o = match_ordering o ((t, c) ∷ held_of (x ∷ xs)) ((x.rtype, c) ∷ held_of xs) ((x.rtype, x.contents) ∷ insert_entry nat_cmp (held_of xs) t c)

pub put_before : (xs : List TypedSet) (at t : ℕ) (s : TypedSet) → s.rtype ≡ t → at ≤ length xs → Below t (take at xs) → IfSome (slice_get xs at) (λ r. t < r.rtype) → held_of (insert xs at s) ≡ insert_entry nat_cmp (held_of xs) t s.contents
put_before [] zero t s own le b f = ap (λ n. (n, s.contents) ∷ []) own
put_before [] (suc at) t s own le b f = absurd (omega (arith, le))
put_before (x ∷ xs) zero t s own le b f = ap (λ n. (n, s.contents) ∷ held_of (x ∷ xs)) own ∙ sym (ap (over t s.contents x xs) (later t x.rtype f))
put_before (x ∷ xs) (suc at) t s own le b f =
    ap (λ l. (x.rtype, x.contents) ∷ l) (put_before xs at t s own (omega (arith, le)) b.1 f) ∙ sym (ap (over t s.contents x xs) (earlier t x.rtype b.0))

pub put_over : (xs : List TypedSet) (at t : ℕ) (s : TypedSet) → s.rtype ≡ t → Below t (take at xs) → type_at xs at ≡ Some t → held_of (slice_set xs at s) ≡ insert_entry nat_cmp (held_of xs) t s.contents
put_over [] at t s own b h = absurd (true≢false (sym (ap is_some h)))
put_over (x ∷ xs) zero t s own b h =
    ap (λ n. (n, s.contents) ∷ held_of xs) (own ∙ sym (is_type t x.rtype h)) ∙ sym (ap (over t s.contents x xs) (tied t x.rtype (is_type t x.rtype h)))
put_over (x ∷ xs) (suc at) t s own b h =
    ap (λ l. (x.rtype, x.contents) ∷ l) (put_over xs at t s own b.1 h) ∙ sym (ap (over t s.contents x xs) (earlier t x.rtype b.0))

abbrev without : ℕ → TypedSet → List TypedSet → Ordering → NodeSets
without t x xs o = cond (is_eq o) (held_of xs) ((x.rtype, x.contents) ∷ remove_entry (is_at (nat_cmp t)) (held_of xs))

pub taken_at : (xs : List TypedSet) (at t : ℕ) → Below t (take at xs) → type_at xs at ≡ Some t → held_of (remove xs at) ≡ remove_entry (is_at (nat_cmp t)) (held_of xs)
taken_at [] at t b h = absurd (true≢false (sym (ap is_some h)))
taken_at (x ∷ xs) zero t b h = sym (ap (without t x xs) (tied t x.rtype (is_type t x.rtype h)))
taken_at (x ∷ xs) (suc at) t b h = ap (λ l. (x.rtype, x.contents) ∷ l) (taken_at xs at t b.1 h) ∙ sym (ap (without t x xs) (earlier t x.rtype b.0))

none_taken : (t : ℕ) (held : NodeSets) → lookup (is_at (nat_cmp t)) held ≡ None → held ≡ remove_entry (is_at (nat_cmp t)) held
none_taken t [] h = refl
none_taken t (e ∷ held) h = by (is_eq (nat_cmp t e.0)) h (λ k. none_taken t held k)
  where
    by : (b : Bool) → cond b (Some e.1) (lookup (is_at (nat_cmp t)) held) ≡ None → (lookup (is_at (nat_cmp t)) held ≡ None → held ≡ remove_entry (is_at (nat_cmp t)) held)
        → e ∷ held ≡ cond b held (e ∷ remove_entry (is_at (nat_cmp t)) held)
    by true k f = absurd (true≢false (ap is_some k))
    by false k f = ap (λ l. e ∷ l) (f k)

pub not_taken : (xs : List TypedSet) (at t : ℕ) → IsStrictlySortedBy nat_cmp (types_of xs) → Below t (take at xs) → IfSome (slice_get xs at) (λ s. t < s.rtype) → held_of xs ≡ remove_entry (is_at (nat_cmp t)) (held_of xs)
not_taken xs at t sorted b f = none_taken t (held_of xs) (absent_at xs at t sorted b f)

-- ---- those after a type

after_at : (xs : List TypedSet) (at t : ℕ) → IsStrictlySortedBy nat_cmp (types_of xs) → AllByRecursion (λ (s : TypedSet). s.rtype ≤ t) (take at xs) → IfSome (slice_get xs at) (λ s. t < s.rtype) → after_typed t xs ≡ drop at xs
after_at [] zero t sorted b f = refl
after_at [] (suc at) t sorted b f = refl
after_at (x ∷ xs) zero t sorted b f = all_after t x xs sorted (later t x.rtype f)
after_at (x ∷ xs) (suc at) t sorted b f = not_after t x xs (not_later t x.rtype b.0) ∙ after_at xs at t (sorted_tail nat_cmp x.rtype (types_of xs) sorted) b.1 f

pub rest_after : (xs : List TypedSet) (at t : ℕ) → IsStrictlySortedBy nat_cmp (types_of xs) → AllByRecursion (λ (s : TypedSet). s.rtype ≤ t) (take at xs) → IfSome (slice_get xs at) (λ s. t < s.rtype) → drop at xs ≡ typed_sets (after_type t (held_of xs))
rest_after xs at t sorted b f = sym (after_at xs at t sorted b f) ∙ ap (after_typed t) (sym (typed_back xs)) ∙ typed_after t (held_of xs)
