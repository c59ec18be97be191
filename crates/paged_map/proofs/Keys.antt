-- What entries in order have at a key and past one, where they are cut there.
use Rattle.std.proofs.Common.{◌≡◌, ℕ, zero, suc, ◌≤◌, ◌<◌, Bool, true, false, cond, not, ◌||◌, ◌&&◌, List, [], ◌∷◌, ◌++◌, take, drop, length, refl, sym, ap, ◌∙◌, subst, true≢false, append_assoc, take-append-drop, Option, Some, None, is_some, find, filter, slice_get, Ordering, Less, Equal, Greater, is_gt, is_lt, is_le, is_eq, nat_cmp, nat_eq, arith}
use Rattle.std.specs.Ordering.{match_ordering, ordering_reverse, ordering_then}
use Rattle.std.specs.Cmp.{Equal-is}
use Rattle.std.specs.List.{AllByRecursion}
use Rattle.std.specs.List.Sorted.{IsStrictlySortedBy}
use Rattle.std.specs.BTreeMap.{insert_entry, is_at}
use Rattle.std.specs.Map.{keys_of, lookup, remove_entry}
use Rattle.std.specs.Cmp.Lexicographic.{pointwise}
use Rattle.std.proofs.lemmas.Cmp.{ranked, tied_itself, nat_cmp_total}
use Rattle.std.proofs.lemmas.List.Elements.{filter-append, filter_agree}
use Rattle.std.proofs.lemmas.Map.{lookup-none}
use Rattle.std.proofs.lemmas.Map.Keys.{sorted_head, sorted_tail}
use Rattle.std.proofs.lemmas.Map.Entries.{lookup_head, lookup_tail, none_below_head}
use Rattle.paged_map.specs.declared.marks.Mark.{Mark}
use Rattle.paged_map.specs.Octets.{octets_cmp, begins_with, passes, is_key_of}
use Rattle.paged_map.specs.Pages.{Ascend, Passed, Ahead}
use Rattle.paged_map.proofs.MarkOrder.{octets_total}
use Rattle.paged_map.proofs.Orders.{sorted_none, sorted_cons, AllBelow}

gt_apart : (o : Ordering) → is_gt o ≡ true → is_eq o ≡ false
gt_apart Less h = refl
gt_apart Equal h = absurd (true≢false (sym h))
gt_apart Greater h = refl

is_greater : (o : Ordering) → is_gt o ≡ true → o ≡ Greater
is_greater Less h = absurd (true≢false (sym h))
is_greater Equal h = absurd (true≢false (sym h))
is_greater Greater h = refl

is_less : (o : Ordering) → is_gt o ≡ false → is_eq o ≡ false → o ≡ Less
is_less Less g e = refl
is_less Equal g e = absurd (true≢false e)
is_less Greater g e = absurd (true≢false g)

-- strings that compare Equal are the same
pub same_octets : (k j : List ℕ) → octets_cmp k j ≡ Equal → j ≡ k
same_octets [] [] h = refl
same_octets [] (b ∷ j) h = absurd (true≢false (ap is_lt h))
same_octets (a ∷ k) [] h = absurd (true≢false (ap is_gt h))
same_octets (a ∷ k) (b ∷ j) h = by (nat_cmp a b) refl h (same_octets k j)
  where
    by : (o : Ordering) → nat_cmp a b ≡ o → ordering_then o (octets_cmp k j) ≡ Equal → (octets_cmp k j ≡ Equal → j ≡ k) → b ∷ j ≡ a ∷ k
    by Less e h rest = absurd (true≢false (ap is_lt h))
    by Equal e h rest = let same : a ≡ b = ranked a b Equal (sym e) in ap (λ x. x ∷ j) (sym same) ∙ ap (λ l. a ∷ l) (rest h)
    by Greater e h rest = absurd (true≢false (ap is_gt h))

-- what begins with a string isn't less than it
pub begins_from : (k x : List ℕ) → begins_with x k ≡ true → is_gt (octets_cmp k x) ≡ false
begins_from [] [] h = refl
begins_from [] (b ∷ x) h = refl
begins_from (a ∷ k) [] h = absurd (true≢false (sym h))
begins_from (a ∷ k) (b ∷ x) h = by (nat_eq a b) refl h (begins_from k x)
  where
    by : (t : Bool) → nat_eq a b ≡ t → (t && pointwise nat_eq k (take (length k) x)) ≡ true → (begins_with x k ≡ true → is_gt (octets_cmp k x) ≡ false) → is_gt (ordering_then (nat_cmp a b) (octets_cmp k x)) ≡ false
    by true e h rest = let same : a ≡ b = grind (arith, e) in ap (λ n. is_gt (ordering_then (nat_cmp n b) (octets_cmp k x))) same ∙ ap (λ o. is_gt (ordering_then o (octets_cmp k x))) (tied_itself nat_cmp_total b) ∙ rest h
    by false e h rest = absurd (true≢false (sym h))

apart_below : (k x : List ℕ) → is_gt (octets_cmp k x) ≡ true → begins_with x k ≡ false
apart_below k x h = by (begins_with x k) refl
  where
    by : (t : Bool) → begins_with x k ≡ t → t ≡ false
    by true e = absurd (true≢false (sym h ∙ begins_from k x e))
    by false e = refl

module _ {V : Type 0} where
  abbrev pub Below : List ℕ → List (List ℕ × V) → Type 0
  Below k es = AllByRecursion (λ e. is_gt (octets_cmp k e.0) ≡ true) es

  abbrev pub From : List ℕ → List (List ℕ × V) → Type 0
  From k es = AllByRecursion (λ e. is_gt (octets_cmp k e.0) ≡ false) es

  -- up to the end of what begins with a string, and past it
  abbrev pub UpToUnder : List ℕ → List (List ℕ × V) → Type 0
  UpToUnder k es = AllByRecursion (λ e. (is_gt (octets_cmp k e.0) || begins_with e.0 k) ≡ true) es

  abbrev pub BeyondUnder : List ℕ → List (List ℕ × V) → Type 0
  BeyondUnder k es = AllByRecursion (λ e. (is_gt (octets_cmp k e.0) || begins_with e.0 k) ≡ false) es

  pub lookup_found : (k : List ℕ) (front : List (List ℕ × V)) (e : List ℕ × V) (rest : List (List ℕ × V)) → Below k front → is_eq (octets_cmp k e.0) ≡ true → lookup (is_at (octets_cmp k)) (front ++ e ∷ rest) ≡ Some e.1
  lookup_found k [] e rest b h = lookup_head (is_at (octets_cmp k)) e rest h
  lookup_found k (x ∷ front) e rest b h = lookup_tail (is_at (octets_cmp k)) x (front ++ e ∷ rest) (gt_apart (octets_cmp k x.0) b.0) ∙ lookup_found k front e rest b.1 h

  pub lookup_absent : (k : List ℕ) (front rest : List (List ℕ × V)) → Below k front → From k rest → Ascend rest → is_key_of k (slice_get rest 0) ≡ false → lookup (is_at (octets_cmp k)) (front ++ rest) ≡ None
  lookup_absent k [] [] b f s h = refl
  lookup_absent k [] (e ∷ rest) b f s h = lookup-none (is_at (octets_cmp k)) (e ∷ rest) (none_below_head octets_total k e rest s (is_less (octets_cmp k e.0) f.0 h))
  lookup_absent k (x ∷ front) rest b f s h = lookup_tail (is_at (octets_cmp k)) x (front ++ rest) (gt_apart (octets_cmp k x.0) b.0) ∙ lookup_absent k front rest b.1 f s h

  pub insert_found : (k : List ℕ) (v : V) (front : List (List ℕ × V)) (e : List ℕ × V) (rest : List (List ℕ × V)) → Below k front → is_eq (octets_cmp k e.0) ≡ true → insert_entry octets_cmp (front ++ e ∷ rest) k v ≡ front ++ (k, v) ∷ rest
  insert_found k v [] e rest b h =
      let equal : octets_cmp k e.0 ≡ Equal = (Equal-is (octets_cmp k e.0)).0 h in
      ap (λ o. match_ordering o ((k, v) ∷ e ∷ rest) ((e.0, v) ∷ rest) (e ∷ insert_entry octets_cmp rest k v)) equal ∙ ap (λ j. (j, v) ∷ rest) (same_octets k e.0 equal)
  insert_found k v (x ∷ front) e rest b h =
      ap (λ o. match_ordering o ((k, v) ∷ x ∷ (front ++ e ∷ rest)) ((x.0, v) ∷ (front ++ e ∷ rest)) (x ∷ insert_entry octets_cmp (front ++ e ∷ rest) k v)) (is_greater (octets_cmp k x.0) b.0)
      ∙ ap (λ l. x ∷ l) (insert_found k v front e rest b.1 h)

  pub insert_absent : (k : List ℕ) (v : V) (front rest : List (List ℕ × V)) → Below k front → From k rest → is_key_of k (slice_get rest 0) ≡ false → insert_entry octets_cmp (front ++ rest) k v ≡ front ++ (k, v) ∷ rest
  insert_absent k v [] [] b f h = refl
  insert_absent k v [] (e ∷ rest) b f h =
      ap (λ o. match_ordering o ((k, v) ∷ e ∷ rest) ((e.0, v) ∷ rest) (e ∷ insert_entry octets_cmp rest k v)) (is_less (octets_cmp k e.0) f.0 h)
  insert_absent k v (x ∷ front) rest b f h =
      ap (λ o. match_ordering o ((k, v) ∷ x ∷ (front ++ rest)) ((x.0, v) ∷ (front ++ rest)) (x ∷ insert_entry octets_cmp (front ++ rest) k v)) (is_greater (octets_cmp k x.0) b.0)
      ∙ ap (λ l. x ∷ l) (insert_absent k v front rest b.1 f h)

  pub remove_found : (k : List ℕ) (front : List (List ℕ × V)) (e : List ℕ × V) (rest : List (List ℕ × V)) → Below k front → is_eq (octets_cmp k e.0) ≡ true → remove_entry (is_at (octets_cmp k)) (front ++ e ∷ rest) ≡ front ++ rest
  remove_found k [] e rest b h = ap (λ t. cond t rest (e ∷ remove_entry (is_at (octets_cmp k)) rest)) h
  remove_found k (x ∷ front) e rest b h =
      ap (λ t. cond t (front ++ e ∷ rest) (x ∷ remove_entry (is_at (octets_cmp k)) (front ++ e ∷ rest))) (gt_apart (octets_cmp k x.0) b.0) ∙ ap (λ l. x ∷ l) (remove_found k front e rest b.1 h)

  pub remove_absent : (test : List ℕ → Bool) (es : List (List ℕ × V)) → lookup test es ≡ None → remove_entry test es ≡ es
  remove_absent test [] h = refl
  remove_absent test (e ∷ es) h = by (test e.0) refl (remove_absent test es)
    where
      by : (b : Bool) → test e.0 ≡ b → (lookup test es ≡ None → remove_entry test es ≡ es) → cond b es (e ∷ remove_entry test es) ≡ e ∷ es
      by true t rest = absurd (true≢false (ap is_some (sym (lookup_head test e es t) ∙ h)))
      by false t rest = ap (λ l. e ∷ l) (rest (sym (lookup_tail test e es t) ∙ h))

  -- the first that a mark doesn't pass, and all those
  pub find_cut : (m : Mark) (front rest : List (List ℕ × V)) → Passed m front → Ahead m rest → find (λ e. not (passes m e.0)) (front ++ rest) ≡ slice_get rest 0
  find_cut m [] [] p a = refl
  find_cut m [] (e ∷ rest) p a = ap (λ t. cond (not t) (Some e) (find (λ e. not (passes m e.0)) rest)) a.0
  find_cut m (x ∷ front) rest p a = ap (λ t. cond (not t) (Some x) (find (λ e. not (passes m e.0)) (front ++ rest))) p.0 ∙ find_cut m front rest p.1 a

  all_ahead : (m : Mark) (rest : List (List ℕ × V)) → Ahead m rest → filter (λ e. not (passes m e.0)) rest ≡ rest
  all_ahead m [] a = refl
  all_ahead m (e ∷ rest) a = ap (λ t. cond (not t) (e ∷ filter (λ e. not (passes m e.0)) rest) (filter (λ e. not (passes m e.0)) rest)) a.0 ∙ ap (λ l. e ∷ l) (all_ahead m rest a.1)

  pub filter_cut : (m : Mark) (front rest : List (List ℕ × V)) → Passed m front → Ahead m rest → filter (λ e. not (passes m e.0)) (front ++ rest) ≡ rest
  filter_cut m [] rest p a = all_ahead m rest a
  filter_cut m (x ∷ front) rest p a =
      ap (λ t. cond (not t) (x ∷ filter (λ e. not (passes m e.0)) (front ++ rest)) (filter (λ e. not (passes m e.0)) (front ++ rest))) p.0 ∙ filter_cut m front rest p.1 a

  -- edits keep the order
  below_insert : (x k : List ℕ) (v : V) (es : List (List ℕ × V)) → octets_cmp x k ≡ Less → AllBelow x es → AllBelow x (insert_entry octets_cmp es k v)
  below_insert x k v [] h b = (h, tt)
  below_insert x k v (e ∷ es) h b =
      elim (octets_cmp k e.0) as (λ r. AllBelow x (match_ordering r ((k, v) ∷ e ∷ es) ((e.0, v) ∷ es) (e ∷ insert_entry octets_cmp es k v))) [
        | Less ↦ (h, b)
        | Equal ↦ b
        | Greater ↦ (b.0, below_insert x k v es h b.1)
      ]

  below_all : (x y : List ℕ) (es : List (List ℕ × V)) → octets_cmp x y ≡ Less → AllBelow y es → AllBelow x es
  below_all x y [] h b = tt
  below_all x y (e ∷ es) h b = (octets_total.trans x y e.0 h b.0, below_all x y es h b.1)

  pub ascend_insert : (es : List (List ℕ × V)) (k : List ℕ) (v : V) → Ascend es → Ascend (insert_entry octets_cmp es k v)
  ascend_insert [] k v s = sorted_cons k [] tt sorted_none
  ascend_insert (e ∷ es) k v s = by (octets_cmp k e.0) refl (ascend_insert es k v (sorted_tail octets_cmp e.0 (keys_of es) s))
    where
      by : (r : Ordering) → octets_cmp k e.0 ≡ r → Ascend (insert_entry octets_cmp es k v) → Ascend (match_ordering r ((k, v) ∷ e ∷ es) ((e.0, v) ∷ es) (e ∷ insert_entry octets_cmp es k v))
      by Less p h = sorted_cons k (keys_of (e ∷ es)) (p, below_all k e.0 es p (sorted_head octets_cmp e.0 (keys_of es) s)) s
      by Equal p h = s
      by Greater p h = sorted_cons e.0 (keys_of (insert_entry octets_cmp es k v)) (below_insert e.0 k v es (octets_total.antisymm e.0 k ∙ ap ordering_reverse p) (sorted_head octets_cmp e.0 (keys_of es) s)) h

  below_remove : (x : List ℕ) (test : List ℕ → Bool) (es : List (List ℕ × V)) → AllBelow x es → AllBelow x (remove_entry test es)
  below_remove x test [] b = tt
  below_remove x test (e ∷ es) b =
      elim (test e.0) as (λ c. AllBelow x (cond c es (e ∷ remove_entry test es))) [
        | true ↦ b.1
        | false ↦ (b.0, below_remove x test es b.1)
      ]

  pub ascend_remove : (test : List ℕ → Bool) (es : List (List ℕ × V)) → Ascend es → Ascend (remove_entry test es)
  ascend_remove test [] s = sorted_none
  ascend_remove test (e ∷ es) s =
      elim (test e.0) as (λ c. Ascend (cond c es (e ∷ remove_entry test es))) [
        | true ↦ sorted_tail octets_cmp e.0 (keys_of es) s
        | false ↦ sorted_cons e.0 (keys_of (remove_entry test es)) (below_remove e.0 test es (sorted_head octets_cmp e.0 (keys_of es) s)) (ascend_remove test es (sorted_tail octets_cmp e.0 (keys_of es) s))
      ]

  below_filter : (x : List ℕ) (test : List ℕ × V → Bool) (es : List (List ℕ × V)) → AllBelow x es → AllBelow x (filter test es)
  below_filter x test [] b = tt
  below_filter x test (e ∷ es) b =
      elim (test e) as (λ c. AllBelow x (cond c (e ∷ filter test es) (filter test es))) [
        | true ↦ (b.0, below_filter x test es b.1)
        | false ↦ below_filter x test es b.1
      ]

  pub ascend_filter : (test : List ℕ × V → Bool) (es : List (List ℕ × V)) → Ascend es → Ascend (filter test es)
  ascend_filter test [] s = sorted_none
  ascend_filter test (e ∷ es) s =
      let rest = ascend_filter test es (sorted_tail octets_cmp e.0 (keys_of es) s) in
      elim (test e) as (λ c. Ascend (cond c (e ∷ filter test es) (filter test es))) [
        | true ↦ sorted_cons e.0 (keys_of (filter test es)) (below_filter e.0 test es (sorted_head octets_cmp e.0 (keys_of es) s)) rest
        | false ↦ rest
      ]

  -- what stays where all that begins with a string goes
  abbrev stays : List ℕ → List ℕ × V → Bool
  stays k e = not (begins_with e.0 k)

  abbrev beyond_under : List ℕ → List ℕ × V → Bool
  beyond_under k e = not (is_gt (octets_cmp k e.0) || begins_with e.0 k)

  below_stays : (k : List ℕ) (es : List (List ℕ × V)) → Below k es → filter (stays k) es ≡ es
  below_stays k [] b = refl
  below_stays k (e ∷ es) b = ap (λ t. cond (not t) (e ∷ filter (stays k) es) (filter (stays k) es)) (apart_below k e.0 b.0) ∙ ap (λ l. e ∷ l) (below_stays k es b.1)

  below_under : (k : List ℕ) (es : List (List ℕ × V)) → Below k es → filter (beyond_under k) es ≡ []
  below_under k [] b = refl
  below_under k (e ∷ es) b = ap (λ t. cond (not (t || begins_with e.0 k)) (e ∷ filter (beyond_under k) es) (filter (beyond_under k) es)) b.0 ∙ below_under k es b.1

  from_alike : (k : List ℕ) (es : List (List ℕ × V)) → From k es → filter (stays k) es ≡ filter (beyond_under k) es
  from_alike k [] f = refl
  from_alike k (e ∷ es) f =
      ap (λ l. cond (not (begins_with e.0 k)) (e ∷ l) l) (from_alike k es f.1) ∙ ap (λ t. cond (not (t || begins_with e.0 k)) (e ∷ filter (beyond_under k) es) (filter (beyond_under k) es)) (sym f.0)

  rest_under : (k : List ℕ) (rest : List (List ℕ × V)) → BeyondUnder k rest → filter (beyond_under k) rest ≡ rest
  rest_under k [] a = refl
  rest_under k (e ∷ rest) a = ap (λ t. cond (not t) (e ∷ filter (beyond_under k) rest) (filter (beyond_under k) rest)) a.0 ∙ ap (λ l. e ∷ l) (rest_under k rest a.1)

  under_rest : (k : List ℕ) (upto rest : List (List ℕ × V)) → UpToUnder k upto → BeyondUnder k rest
      → filter (beyond_under k) (upto ++ rest) ≡ rest
  under_rest k [] rest p a = rest_under k rest a
  under_rest k (x ∷ upto) rest p a = ap (λ t. cond (not t) (x ∷ filter (beyond_under k) (upto ++ rest)) (filter (beyond_under k) (upto ++ rest))) p.0 ∙ under_rest k upto rest p.1 a

  -- what is before a string isn't past what begins with it
  pub ordered_at : (k : List ℕ) (p : List (List ℕ × V)) (i j : ℕ) → i ≤ length p → Below k (take i p) → BeyondUnder k (drop j p) → i ≤ j
  ordered_at k p zero j h b a = omega arith
  ordered_at k [] (suc i) j h b a = absurd (omega (arith, h))
  ordered_at k (e ∷ p) (suc i) zero h b a = absurd (true≢false (sym (ap (λ t. t || begins_with e.0 k) b.0) ∙ a.0))
  ordered_at k (e ∷ p) (suc i) (suc j) h b a = let rest : BeyondUnder k (drop j p) = a in let l : i ≤ j = ordered_at k p i j (omega (arith, h)) b.1 rest in omega (arith, l)

  pub under_cut : (k : List ℕ) (es front from upto rest : List (List ℕ × V)) → es ≡ front ++ from → es ≡ upto ++ rest → Below k front → From k from
      → UpToUnder k upto → BeyondUnder k rest
      → filter (λ e. not (begins_with e.0 k)) es ≡ front ++ rest
  under_cut k es front from upto rest one two b f p a =
      let others : filter (beyond_under k) from ≡ rest =
      ap (λ l. l ++ filter (beyond_under k) from) (sym (below_under k front b)) ∙ sym (filter-append (beyond_under k) front from) ∙ ap (filter (beyond_under k)) (sym one ∙ two) ∙ under_rest k upto rest p a in
      ap (filter (stays k)) one ∙ filter-append (stays k) front from ∙ ap (λ l. l ++ filter (stays k) from) (below_stays k front b) ∙ ap (λ l. front ++ l) (from_alike k from f ∙ others)

  find_alike : (f g : List ℕ × V → Bool) → ((e : List ℕ × V) → f e ≡ g e) → (es : List (List ℕ × V)) → find f es ≡ find g es
  find_alike f g same [] = refl
  find_alike f g same (e ∷ es) = ap (λ t. cond t (Some e) (find f es)) (same e) ∙ ap (cond (g e) (Some e)) (find_alike f g same es)

  -- the tests of a key's place, as callers write them
  pub find_from : (k : List ℕ) (es : List (List ℕ × V)) → find (λ e. not (is_gt (octets_cmp k e.0))) es ≡ find (λ e. is_le (octets_cmp k e.0)) es
  find_from k es = find_alike (λ e. not (is_gt (octets_cmp k e.0))) (λ e. is_le (octets_cmp k e.0)) (λ e. upto (octets_cmp k e.0)) es
    where
      upto : (o : Ordering) → not (is_gt o) ≡ is_le o
      upto Less = refl
      upto Equal = refl
      upto Greater = refl

  pub find_after : (k : List ℕ) (es : List (List ℕ × V)) → find (λ e. not (not (is_lt (octets_cmp k e.0)))) es ≡ find (λ e. is_lt (octets_cmp k e.0)) es
  find_after k es = find_alike (λ e. not (not (is_lt (octets_cmp k e.0)))) (λ e. is_lt (octets_cmp k e.0)) (λ e. twice (is_lt (octets_cmp k e.0))) es
    where
      twice : (b : Bool) → not (not b) ≡ b
      twice true = refl
      twice false = refl

  pub filter_from : (k : List ℕ) (es : List (List ℕ × V)) → filter (λ e. not (is_gt (octets_cmp k e.0))) es ≡ filter (λ e. is_le (octets_cmp k e.0)) es
  filter_from k es = filter_agree (λ e. not (is_gt (octets_cmp k e.0))) (λ e. is_le (octets_cmp k e.0)) (λ e. upto (octets_cmp k e.0)) es
    where
      upto : (o : Ordering) → not (is_gt o) ≡ is_le o
      upto Less = refl
      upto Equal = refl
      upto Greater = refl
