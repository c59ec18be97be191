-- Places within pages.
use Rattle.std.proofs.Common.{◌≡◌, ℕ, zero, suc, ◌+◌, ◌≤◌, ◌<◌, Bool, true, false, List, [], ◌∷◌, ◌++◌, map, take, drop, get_or, length, refl, sym, ap, ◌∙◌, subst, append_assoc, Less, arith, flat_map, length-drop, slice_get, Some, None, is_some, true≢false, ◌-◌}
use Rattle.std.specs.List.{AllByRecursion, AllWithin}
use Rattle.std.specs.List.Sorted.{IsStrictlySortedBy}
use Rattle.std.specs.Map.{keys_of}
use Rattle.std.specs.declared.sync.Arc.{Arc}
use Rattle.std.specs.Arc.{arc_value}
use Rattle.std.proofs.lemmas.List.{get_or-map, length-map}
use Rattle.std.proofs.lemmas.Map.Keys.{sorted_head, sorted_tail}
use Rattle.paged_map.specs.declared.marks.Mark.{Mark}
use Rattle.paged_map.specs.declared.spots.Spot.{Spot}
use Rattle.paged_map.specs.Octets.{octets_cmp, passes, reaches}
use Rattle.paged_map.specs.Pages.{joined, IsFit, AreFit, Ascend, Passed, Ahead, Unreached, first_key, page_at, before, after, values_in}
use Rattle.paged_map.proofs.Orders.{unreached_all, ahead_of_unreached, all_back, sorted_none, sorted_cons, AllBelow, below_back, ascend_back, ascend_front, passed_front, all_joined}

not_below_zero : 0 < 0 → ⊥
not_below_zero h = omega (arith, h)

module _ {X : Type 0} where
  pub split_joined : (ps : List (List X)) (q : ℕ) → q < length ps → joined ps ≡ joined (take q ps) ++ (page_at ps q ++ joined (drop (suc q) ps))
  split_joined [] q h = absurd (omega (arith, h))
  split_joined (p ∷ ps) zero h = refl
  split_joined (p ∷ ps) (suc q) h =
      ap (λ l. p ++ l) (split_joined ps q (omega (arith, h))) ∙ sym (append_assoc p (joined (take q ps)) (page_at ps q ++ joined (drop (suc q) ps)))

  -- the first page of those from a number on is the page of that number
  pub first_dropped : (ps : List (List X)) (n : ℕ) → page_at (drop n ps) 0 ≡ page_at ps n
  first_dropped ps zero = refl
  first_dropped [] (suc n) = refl
  first_dropped (p ∷ ps) (suc n) = first_dropped ps n

  pub not_empty_drop : (ps : List (List X)) (n : ℕ) → 0 < length (drop n ps) → n < length ps
  not_empty_drop ps n h = let e : length (drop n ps) ≡ length ps - n = length-drop n ps in omega (arith, h, e)

  pub fit_at : (ps : List (List X)) (q : ℕ) → AreFit ps → q < length ps → IsFit (page_at ps q)
  fit_at [] q f h = absurd (omega (arith, h))
  fit_at (p ∷ ps) zero f h = f.0
  fit_at (p ∷ ps) (suc q) f h = fit_at ps q f.1 (omega (arith, h))

  pub fit_drop : (n : ℕ) (ps : List (List X)) → AreFit ps → AreFit (drop n ps)
  fit_drop zero ps f = f
  fit_drop (suc n) [] f = tt
  fit_drop (suc n) (p ∷ ps) f = fit_drop n ps f.1

  -- the first entry of pages is the first page's
  pub first_joined : (ps : List (List X)) → AreFit ps → slice_get (joined ps) 0 ≡ slice_get (page_at ps 0) 0
  first_joined [] f = refl
  first_joined ([] ∷ ps) f = absurd (not_below_zero f.0.0)
  first_joined ((e ∷ es) ∷ ps) f = refl

  pub got_here : (p : List X) (i : ℕ) (x : X) (rest : List X) → slice_get p i ≡ Some x → slice_get (drop i p ++ rest) 0 ≡ Some x
  got_here [] i x rest h = absurd (true≢false (sym (ap is_some h)))
  got_here (y ∷ p) zero x rest h = h
  got_here (y ∷ p) (suc i) x rest h = got_here p i x rest h

  pub none_left : (p : List X) (i : ℕ) → slice_get p i ≡ None → drop i p ≡ []
  none_left [] zero h = refl
  none_left [] (suc i) h = refl
  none_left (y ∷ p) zero h = absurd (true≢false (ap is_some h))
  none_left (y ∷ p) (suc i) h = none_left p i h

  -- the first entry from a place on: in its page, or else the next page's first
  pub first_in_page : (ps : List (List X)) (s : Spot) (x : X) → slice_get (page_at ps s.page) s.at ≡ Some x → slice_get (after ps s) 0 ≡ Some x
  first_in_page ps s x h = got_here (page_at ps s.page) s.at x (joined (drop (suc s.page) ps)) h

  pub first_in_next : (ps : List (List X)) (s : Spot) → AreFit ps → slice_get (page_at ps s.page) s.at ≡ None → slice_get (after ps s) 0 ≡ slice_get (page_at ps (suc s.page)) 0
  first_in_next ps s f h =
      ap (λ l. slice_get (l ++ joined (drop (suc s.page) ps)) 0) (none_left (page_at ps s.page) s.at h) ∙ first_joined (drop (suc s.page) ps) (fit_drop (suc s.page) ps f)
      ∙ ap (λ p. slice_get p 0) (first_dropped ps (suc s.page))

  pub fit_take : (n : ℕ) (ps : List (List X)) → AreFit ps → AreFit (take n ps)
  fit_take zero ps f = tt
  fit_take (suc n) [] f = tt
  fit_take (suc n) (p ∷ ps) f = (f.0, fit_take n ps f.1)

abbrev pub Pages : Type 0 → Type 0
Pages V = List (List (List ℕ × V))

-- the key that a shared page begins at
abbrev pub head_in : {V Z : Type 0} → Arc (List (List ℕ × V)) Z → List ℕ
head_in {V} {Z} p = first_key (arc_value p)

module _ {V : Type 0} where
  heads_below : (k : List ℕ) (ps : Pages V) → AreFit ps → AllBelow k (joined ps) → AllByRecursion (λ y. octets_cmp k y ≡ Less) (map first_key ps)
  heads_below k [] f b = tt
  heads_below k ([] ∷ ps) f b = absurd (not_below_zero f.0.0)
  heads_below k ((e ∷ es) ∷ ps) f b = (b.0, heads_below k ps f.1 (below_back k es (joined ps) b.1))

  -- the keys that pages begin at ascend
  pub heads_ascend : (ps : Pages V) → AreFit ps → Ascend (joined ps) → IsStrictlySortedBy octets_cmp (map first_key ps)
  heads_ascend [] f s = sorted_none
  heads_ascend ([] ∷ ps) f s = absurd (not_below_zero f.0.0)
  heads_ascend ((e ∷ es) ∷ ps) f s =
      sorted_cons e.0 (map first_key ps) (heads_below e.0 ps f.1 (below_back e.0 es (joined ps) (sorted_head octets_cmp e.0 (keys_of (es ++ joined ps)) s)))
      (heads_ascend ps f.1 (ascend_back (e ∷ es) (joined ps) s))

  -- where the first page doesn't reach to a mark, none does
  pub unreached_of_first : (m : Mark) (ps : Pages V) → AreFit ps → Ascend (joined ps) → (0 < length ps → reaches m (first_key (page_at ps 0)) ≡ false) → Unreached m (joined ps)
  unreached_of_first m [] f s h = tt
  unreached_of_first m ([] ∷ ps) f s h = absurd (not_below_zero f.0.0)
  unreached_of_first m ((e ∷ es) ∷ ps) f s h = unreached_all m e (es ++ joined ps) s (h (omega arith))

  ahead_of_first : (m : Mark) (ps : Pages V) → AreFit ps → Ascend (joined ps) → (0 < length ps → reaches m (first_key (page_at ps 0)) ≡ false) → Ahead m (joined ps)
  ahead_of_first m ps f s h = ahead_of_unreached m (joined ps) (unreached_of_first m ps f s h)

  pub unreached_at_start : (m : Mark) (ps : Pages V) → AreFit ps → Ascend (joined ps) → (0 < length ps → reaches m (first_key (page_at ps 0)) ≡ false) → Unreached m (joined (drop 1 ps))
  unreached_at_start m [] f s h = tt
  unreached_at_start m (p ∷ ps) f s h = all_back (λ e. reaches m e.0 ≡ false) p (joined ps) (unreached_of_first m (p ∷ ps) f s h)

  pub ahead_at_start : (m : Mark) (ps : Pages V) → AreFit ps → Ascend (joined ps) → (0 < length ps → reaches m (first_key (page_at ps 0)) ≡ false) → Ahead m (after ps (record { page = 0; at = 0 }))
  ahead_at_start m [] f s h = tt
  ahead_at_start m (p ∷ ps) f s h = ahead_of_first m (p ∷ ps) f s h

  front_passed : (m : Mark) (xs p ys : List (List ℕ × V)) → IsFit p → Ascend (xs ++ (p ++ ys)) → reaches m (first_key p) ≡ true → Passed m xs
  front_passed m xs [] ys f s r = absurd (not_below_zero f.0)
  front_passed m xs (e ∷ es) ys f s r = passed_front m xs e (es ++ ys) s r

  pub passed_before : (m : Mark) (ps : Pages V) (q j : ℕ) → AreFit ps → Ascend (joined ps) → q < length ps → reaches m (first_key (page_at ps q)) ≡ true → Passed m (take j (page_at ps q)) → Passed m (before ps (record { page = q; at = j }))
  passed_before m ps q j f s h r t =
      all_joined (λ e. passes m e.0 ≡ true) (joined (take q ps)) (take j (page_at ps q))
      (front_passed m (joined (take q ps)) (page_at ps q) (joined (drop (suc q) ps)) (fit_at ps q f h) (subst Ascend (split_joined ps q h) s) r) t

  pub unreached_after : (m : Mark) (ps : Pages V) (q : ℕ) → AreFit ps → Ascend (joined ps) → q < length ps → (suc q < length ps → reaches m (first_key (page_at ps (suc q))) ≡ false) → Unreached m (joined (drop (suc q) ps))
  unreached_after m ps q f s h r =
      unreached_of_first m (drop (suc q) ps) (fit_drop (suc q) ps f)
      (ascend_back (page_at ps q) (joined (drop (suc q) ps)) (ascend_back (joined (take q ps)) (page_at ps q ++ joined (drop (suc q) ps)) (subst Ascend (split_joined ps q h) s)))
      (λ more. subst (λ p. reaches m (first_key p) ≡ false) (sym (first_dropped ps (suc q))) (r (not_empty_drop ps (suc q) more)))

  pub ahead_after : (m : Mark) (ps : Pages V) (q j : ℕ) → AreFit ps → Ascend (joined ps) → q < length ps → (suc q < length ps → reaches m (first_key (page_at ps (suc q))) ≡ false) → Ahead m (drop j (page_at ps q)) → Ahead m (after ps (record { page = q; at = j }))
  ahead_after m ps q j f s h r t =
      all_joined (λ e. passes m e.0 ≡ false) (drop j (page_at ps q)) (joined (drop (suc q) ps)) t (ahead_of_unreached m (joined (drop (suc q) ps)) (unreached_after m ps q f s h r))

  -- a page's keys ascend
  pub page_ascends : (ps : Pages V) (q : ℕ) → Ascend (joined ps) → q < length ps → Ascend (page_at ps q)
  page_ascends ps q s h =
      ascend_front (page_at ps q) (joined (drop (suc q) ps)) (ascend_back (joined (take q ps)) (page_at ps q ++ joined (drop (suc q) ps)) (subst Ascend (split_joined ps q h) s))

  -- what a search says of shared pages, at the page of a number
  pub reached_by : {Z : Type 0} (m : Mark) (b : Bool) (pages : List (Arc (List (List ℕ × V)) Z)) (low high q : ℕ)
      → AllWithin (λ p. reaches m (head_in p) ≡ b) pages low high → low ≤ q → q < high → q < length pages → reaches m (first_key (page_at (values_in pages) q)) ≡ b
  reached_by m b [] low high q w l h i = absurd (omega (arith, i))
  reached_by m b (p ∷ pages) low high q w l h i = subst (λ x. reaches m (first_key x) ≡ b) (sym (get_or-map arc_value (p ∷ pages) q p [] i)) (w q p l h)

  pub values_length : {Z : Type 0} (pages : List (Arc (List (List ℕ × V)) Z)) → length (values_in pages) ≡ length pages
  values_length pages = length-map pages arc_value

  -- a page that was read
  pub page_read_in : {Z : Type 0} (pages : List (Arc (List (List ℕ × V)) Z)) (q : ℕ) (p : Arc (List (List ℕ × V)) Z) → q < length (values_in pages) → p ≡ get_or pages q p → page_at (values_in pages) q ≡ arc_value p
  page_read_in pages q p h e = get_or-map arc_value pages q p [] (subst (λ n. q < n) (values_length pages) h) ∙ ap arc_value (sym e)
