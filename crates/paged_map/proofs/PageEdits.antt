-- Edits of pages, as edits of their entries one after another.
use Rattle.std.proofs.Common.{◌≡◌, ℕ, zero, suc, ◌+◌, ◌-◌, ◌≤◌, ◌<◌, List, [], ◌∷◌, ◌++◌, take, drop, get_or, length, insert, remove, slice_set, refl, sym, ap, ◌∙◌, subst, append_assoc, append-nil, Vec, vec_len, Global, arith, flat_map, length-append, length-drop, Result, Ok, Err, OnOk, OnErr, length-append, take-append-drop}
use Rattle.std.specs.List.{AllByRecursion}
use Rattle.std.specs.declared.sync.Arc.{Arc}
use Rattle.std.specs.Arc.{arc_value}
use Rattle.std.proofs.lemmas.List.{map-set, set_split, set-get_or, take-take, drop-append-le, take_all, drop_all, length-take-le, drop_more, length-set, length-map, map-append, set-append_left, get_or-map}
use Rattle.std.proofs.lemmas.List.Concat.{flat_map-append}
use Rattle.std.proofs.lemmas.List.Edits.{length-insert, length-remove, insert-append_right}
use Rattle.std.proofs.lemmas.Result.{on_ok_weaker, on_err_weaker}
use Rattle.paged_map.specs.declared.spots.Spot.{Spot}
use Rattle.paged_map.specs.Pages.{joined, values_in, most, IsFit, AreFit, page_at, before, after, beyond}
use Rattle.paged_map.proofs.Orders.{all_joined}
use Rattle.paged_map.proofs.Shared.{map_insert}
use Rattle.paged_map.proofs.Places.{fit_at, fit_take, fit_drop, split_joined}

module _ {X : Type 0} where
  pub joined_parts : (ps qs : List (List X)) → joined (ps ++ qs) ≡ joined ps ++ joined qs
  joined_parts ps qs = flat_map-append (λ p. p) ps qs

  -- one page in another's place
  pub joined_set : (ps : List (List X)) (q : ℕ) (p : List X) → q < length ps → joined (slice_set ps q p) ≡ joined (take q ps) ++ (p ++ joined (drop (suc q) ps))
  joined_set ps q p h = ap joined (set_split ps q p h) ∙ joined_parts (take q ps) (p ∷ drop (suc q) ps)

  -- what stands within a page, among what stands before it and after it
  around : (xs a : List X) (b ys : List X) → xs ++ ((a ++ b) ++ ys) ≡ (xs ++ a) ++ (b ++ ys)
  around xs a b ys = ap (λ l. xs ++ l) (append_assoc a b ys) ∙ sym (append_assoc xs a (b ++ ys))

  pub put_joined : (ps : List (List X)) (s : Spot) (e : X) → s.page < length ps → joined (slice_set ps s.page (insert (page_at ps s.page) s.at e)) ≡ before ps s ++ e ∷ after ps s
  put_joined ps s e h =
      let p = page_at ps s.page in
      joined_set ps s.page (insert p s.at e) h ∙ around (joined (take s.page ps)) (take s.at p) (e ∷ drop s.at p) (joined (drop (suc s.page) ps))

  pub replace_joined : (ps : List (List X)) (s : Spot) (e : X) → s.page < length ps → s.at < length (page_at ps s.page) → joined (slice_set ps s.page (slice_set (page_at ps s.page) s.at e)) ≡ before ps s ++ e ∷ beyond ps s
  replace_joined ps s e h i =
      let p = page_at ps s.page in
      ap (λ l. joined (slice_set ps s.page l)) (set_split p s.at e i) ∙ joined_set ps s.page (take s.at p ++ e ∷ drop (suc s.at) p) h
      ∙ around (joined (take s.page ps)) (take s.at p) (e ∷ drop (suc s.at) p) (joined (drop (suc s.page) ps))

  pub take_joined : (ps : List (List X)) (s : Spot) → s.page < length ps → joined (slice_set ps s.page (remove (page_at ps s.page) s.at)) ≡ before ps s ++ beyond ps s
  take_joined ps s h =
      let p = page_at ps s.page in
      joined_set ps s.page (remove p s.at) h ∙ around (joined (take s.page ps)) (take s.at p) (drop (suc s.at) p) (joined (drop (suc s.page) ps))

  only_one : (p : List X) (i : ℕ) → length p ≡ 1 → i < length p → (take i p ≡ []) × (drop (suc i) p ≡ [])
  only_one p i one h =
      let z : i ≡ 0 = omega (arith, one, h) in
      (subst (λ n. take n p ≡ []) (sym z) refl, drop_all (suc i) p (omega (arith, one)))

  -- a page of one entry goes with it
  pub gone_joined : (ps : List (List X)) (s : Spot) → length (page_at ps s.page) ≡ 1 → s.at < length (page_at ps s.page) → joined (remove ps s.page) ≡ before ps s ++ beyond ps s
  gone_joined ps s one h =
      let o = only_one (page_at ps s.page) s.at one h in
      joined_parts (take s.page ps) (drop (suc s.page) ps) ∙ ap (λ l. l ++ joined (drop (suc s.page) ps)) (sym (append-nil (joined (take s.page ps))))
      ∙ ap (λ l. (joined (take s.page ps) ++ l) ++ joined (drop (suc s.page) ps)) (sym o.0) ∙ ap (λ l. before ps s ++ (l ++ joined (drop (suc s.page) ps))) (sym o.1)

  set_last : (ps : List (List X)) (q : ℕ) (p : List X) → q < length ps → slice_set (take (suc q) ps) q p ≡ take q ps ++ p ∷ []
  set_last [] q p h = absurd (omega (arith, h))
  set_last (x ∷ ps) zero p h = refl
  set_last (x ∷ ps) (suc q) p h = ap (λ l. x ∷ l) (set_last ps q p (omega (arith, h)))

  pub two_joined : (ps : List (List X)) (s : Spot) (e : X) (low high : List X) → low ++ high ≡ insert (page_at ps s.page) s.at e → joined (take s.page ps ++ low ∷ high ∷ drop (suc s.page) ps) ≡ before ps s ++ e ∷ after ps s
  two_joined ps s e low high is =
      let p = page_at ps s.page in
      joined_parts (take s.page ps) (low ∷ high ∷ drop (suc s.page) ps) ∙ ap (λ l. joined (take s.page ps) ++ l) (sym (append_assoc low high (joined (drop (suc s.page) ps))))
      ∙ ap (λ l. joined (take s.page ps) ++ (l ++ joined (drop (suc s.page) ps))) is ∙ around (joined (take s.page ps)) (take s.at p) (e ∷ drop s.at p) (joined (drop (suc s.page) ps))

  pub front_only : (p : List X) (n : ℕ) → take n p ++ drop (length p) p ≡ take n p
  front_only p n = ap (λ l. take n p ++ l) (drop_all (length p) p (omega arith)) ∙ append-nil (take n p)

  -- the halves of a page, with one more entry in the one or the other
  pub halves_low : (p : List X) (n i : ℕ) (e : X) → i ≤ n → n ≤ length p → insert (take n p) i e ++ drop n p ≡ insert p i e
  halves_low p n i e h m =
      ap (λ l. (l ++ (e ∷ drop i (take n p))) ++ drop n p) (take-take i n p h) ∙ append_assoc (take i p) (e ∷ drop i (take n p)) (drop n p)
      ∙ ap (λ l. take i p ++ (e ∷ l)) (sym (drop-append-le i (take n p) (drop n p) (subst (λ k. i ≤ k) (sym (length-take-le n p m)) h)) ∙ ap (drop i) (take-append-drop n p))

  pub halves_high : (p : List X) (n i : ℕ) (e : X) → n ≤ i → i ≤ length p → take n p ++ insert (drop n p) (i - n) e ≡ insert p i e
  halves_high p n i e h m =
      let l : length (take n p) ≡ n = length-take-le n p (omega (arith, h, m)) in
      sym (insert-append_right (take n p) (drop n p) n i e l h) ∙ ap (λ k. insert k i e) (take-append-drop n p)

  -- a part of a page, where something stays
  pub fit_part : (p : List X) (from to : ℕ) → from ≤ to → to ≤ length p → length p ≤ most → 0 < length (take from p ++ drop to p) → IsFit (take from p ++ drop to p)
  fit_part p from to order h few some =
      let l : length (take from p ++ drop to p) ≡ from + (length p - to) =
      length-append (take from p) (drop to p) ∙ ap (λ n. n + length (drop to p)) (length-take-le from p (omega (arith, order, h))) ∙ ap (λ n. from + n) (length-drop to p) in
      (some, subst (λ n. n ≤ most) (sym l) (omega (arith, order, h, few)))

  -- what is taken out of one page
  pub cut_joined : (ps : List (List X)) (q from to : ℕ) → q < length ps
      → joined (slice_set ps q (take from (page_at ps q) ++ drop to (page_at ps q))) ≡ before ps (record { page = q; at = from }) ++ after ps (record { page = q; at = to })
  cut_joined ps q from to h =
      joined_set ps q (take from (page_at ps q) ++ drop to (page_at ps q)) h ∙ around (joined (take q ps)) (take from (page_at ps q)) (drop to (page_at ps q)) (joined (drop (suc q) ps))

  -- and a page of which nothing stays
  pub cut_gone : (ps : List (List X)) (q from to : ℕ) → take from (page_at ps q) ++ drop to (page_at ps q) ≡ [] → joined (remove ps q) ≡ before ps (record { page = q; at = from }) ++ after ps (record { page = q; at = to })
  cut_gone ps q from to gone =
      joined_parts (take q ps) (drop (suc q) ps) ∙ ap (λ l. joined (take q ps) ++ (l ++ joined (drop (suc q) ps))) (sym gone)
      ∙ around (joined (take q ps)) (take from (page_at ps q)) (drop to (page_at ps q)) (joined (drop (suc q) ps))

  pub cut_none : (ps : List (List X)) (q from to : ℕ) → q < length ps → from ≡ to → joined ps ≡ before ps (record { page = q; at = from }) ++ after ps (record { page = q; at = to })
  cut_none ps q from to h e =
      split_joined ps q h ∙ ap (λ l. joined (take q ps) ++ (l ++ joined (drop (suc q) ps))) (sym (take-append-drop from (page_at ps q)))
      ∙ around (joined (take q ps)) (take from (page_at ps q)) (drop from (page_at ps q)) (joined (drop (suc q) ps)) ∙ ap (λ n. before ps (record { page = q; at = from }) ++ after ps (record { page = q; at = n })) e

  past_pages : (ps : List (List X)) (q : ℕ) → length ps ≤ q → page_at ps q ≡ []
  past_pages [] q h = refl
  past_pages (p ∷ ps) zero h = absurd (omega (arith, h))
  past_pages (p ∷ ps) (suc q) h = past_pages ps q (omega (arith, h))

  drop_none : (i : ℕ) → ◌≡◌ {A = List X} (drop i []) []
  drop_none i = drop_all i [] (omega arith)

  take_none : (i : ℕ) → ◌≡◌ {A = List X} (take i []) []
  take_none i = take_all i [] (omega arith)

  -- past the last page
  pub begin_past : (ps : List (List X)) (s : Spot) (e : X) → length ps ≤ s.page → joined (ps ++ (e ∷ []) ∷ []) ≡ before ps s ++ e ∷ after ps s
  begin_past ps s e h =
      let none : page_at ps s.page ≡ [] = past_pages ps s.page h in
      let front : before ps s ≡ joined ps = ap (λ l. joined (take s.page ps) ++ take s.at l) none ∙ ap (λ l. joined (take s.page ps) ++ l) (take_none s.at) ∙ append-nil (joined (take s.page ps)) ∙ ap joined (take_all s.page ps h) in
      let back : after ps s ≡ [] = ap (λ l. drop s.at l ++ joined (drop (suc s.page) ps)) none ∙ ap (λ l. l ++ joined (drop (suc s.page) ps)) (drop_none s.at) ∙ ap joined (drop_all (suc s.page) ps (omega (arith, h))) in
      joined_parts ps ((e ∷ []) ∷ []) ∙ ap (λ l. l ++ e ∷ []) (sym front) ∙ ap (λ l. before ps s ++ e ∷ l) (sym back)

  -- at the end of the last page
  pub begin_last : (ps : List (List X)) (s : Spot) (e : X) → suc s.page ≡ length ps → s.at ≡ length (page_at ps s.page) → joined (ps ++ (e ∷ []) ∷ []) ≡ before ps s ++ e ∷ after ps s
  begin_last ps s e last end =
      let p = page_at ps s.page in
      let rest : drop (suc s.page) ps ≡ [] = drop_all (suc s.page) ps (omega (arith, last)) in
      let front : joined ps ≡ before ps s =
      split_joined ps s.page (omega (arith, last)) ∙ ap (λ l. joined (take s.page ps) ++ (p ++ joined l)) rest ∙ ap (λ l. joined (take s.page ps) ++ l) (append-nil p)
      ∙ ap (λ l. joined (take s.page ps) ++ l) (sym (take_all s.at p (omega (arith, end)))) in
      let back : after ps s ≡ [] = ap (λ l. drop s.at p ++ joined l) rest ∙ append-nil (drop s.at p) ∙ drop_all s.at p (omega (arith, end)) in
      joined_parts ps ((e ∷ []) ∷ []) ∙ ap (λ l. l ++ e ∷ []) front ∙ ap (λ l. before ps s ++ e ∷ l) (sym back)

  pub fit_set : (ps : List (List X)) (q : ℕ) (p : List X) → AreFit ps → IsFit p → AreFit (slice_set ps q p)
  fit_set [] q p f i = tt
  fit_set (x ∷ ps) zero p f i = (i, f.1)
  fit_set (x ∷ ps) (suc q) p f i = (f.0, fit_set ps q p f.1 i)

  pub fit_remove : (ps : List (List X)) (q : ℕ) → AreFit ps → AreFit (remove ps q)
  fit_remove ps q f = all_joined IsFit (take q ps) (drop (suc q) ps) (fit_take q ps f) (fit_drop (suc q) ps f)

  pub fit_two : (ps : List (List X)) (q : ℕ) (low high : List X) → AreFit ps → IsFit low → IsFit high → AreFit (take q ps ++ low ∷ high ∷ drop (suc q) ps)
  fit_two ps q low high f l h = all_joined IsFit (take q ps) (low ∷ high ∷ drop (suc q) ps) (fit_take q ps f) (l, (h, fit_drop (suc q) ps f))

  pub fit_begin : (ps : List (List X)) (e : X) → AreFit ps → AreFit (ps ++ (e ∷ []) ∷ [])
  fit_begin ps e f = all_joined IsFit ps ((e ∷ []) ∷ []) f ((omega arith, omega arith), tt)

  pub fit_insert : (p : List X) (i : ℕ) (e : X) → i ≤ length p → length p < most → IsFit (insert p i e)
  fit_insert p i e h room = let l : length (insert p i e) ≡ length p + 1 = length-insert p i e h in (omega (arith, l), omega (arith, l, room))

  pub fit_replace : (p : List X) (i : ℕ) (e : X) → IsFit p → IsFit (slice_set p i e)
  fit_replace p i e f = subst (λ n. (0 < n) × (n ≤ most)) (sym (length-set p i e)) f

  pub fit_without : (p : List X) (i : ℕ) → i < length p → (length p ≡ 1 → ⊥) → IsFit p → IsFit (remove p i)
  fit_without p i h more f = let l : length (remove p i) + 1 ≡ length p = length-remove p i h in (omega (arith, l, h, more), omega (arith, l, f.1))

-- an edit of one page behind its owner: w stands where old stood
module _ {X Z E : Type 0} (pages : List (Arc (List X) Z)) (q : ℕ) (old w : Arc (List X) Z) (r : Result (Unit {0}) E) (h : q < length (values_in pages)) (read : page_at (values_in pages) q ≡ arc_value old) where
  pub edit_ok : (p : List X) (es : List X) → OnOk r (arc_value w ≡ p) → joined (slice_set (values_in pages) q p) ≡ es → OnOk r (joined (values_in (slice_set pages q w)) ≡ es)
  edit_ok p es is same = on_ok_weaker r (λ e. ap joined (map-set arc_value pages q w) ∙ ap (λ l. joined (slice_set (values_in pages) q l)) e ∙ same) is

  pub edit_err : OnErr r (arc_value w ≡ arc_value old) → OnErr r (values_in (slice_set pages q w) ≡ values_in pages)
  edit_err is = on_err_weaker r (λ e. map-set arc_value pages q w ∙ ap (λ l. slice_set (values_in pages) q l) (e ∙ sym read) ∙ set-get_or (values_in pages) q []) is

  fit_by : (p : List X) → AreFit (values_in pages) → IsFit p → arc_value w ≡ p → AreFit (values_in (slice_set pages q w))
  fit_by p f i e = subst AreFit (sym (map-set arc_value pages q w)) (fit_set (values_in pages) q (arc_value w) f (subst IsFit (sym e) i))

  pub edit_fit : (p : List X) → AreFit (values_in pages) → IsFit p → OnOk r (arc_value w ≡ p) → OnErr r (arc_value w ≡ arc_value old) → AreFit (values_in (slice_set pages q w))
  edit_fit p f i ok err = by r ok err
    where
      by : (r : Result (Unit {0}) E) → OnOk r (arc_value w ≡ p) → OnErr r (arc_value w ≡ arc_value old) → AreFit (values_in (slice_set pages q w))
      by (Ok x) ok err = fit_by p f i ok
      by (Err x) ok err = fit_by (arc_value old) f (subst IsFit read (fit_at (values_in pages) q f h)) err

module _ {X Z : Type 0} where
  -- a page of a Vec, as one of the pages
  pub within_pages : (pages : Vec (Arc (List X) Z) Global) (q : ℕ) → q < vec_len pages → q < length (values_in pages.items)
  within_pages pages q h = subst (λ n. q < n) (pages.ok.0 ∙ sym (length-map pages.items arc_value)) h

  pub read_in : (items : List (Arc (List X) Z)) (q : ℕ) (p : Arc (List X) Z) → q < length (values_in items) → p ≡ get_or items q p → page_at (values_in items) q ≡ arc_value p
  read_in items q p h e = get_or-map arc_value items q p [] (subst (λ n. q < n) (length-map items arc_value) h) ∙ ap arc_value (sym e)

  -- a page put after another, and one in that one's place
  pub two_values : (items : List (Arc (List X) Z)) (q : ℕ) (low high : Arc (List X) Z) → q < length items
      → values_in (slice_set (insert items (suc q) high) q low) ≡ take q (values_in items) ++ arc_value low ∷ arc_value high ∷ drop (suc q) (values_in items)
  two_values items q low high h =
      map-set arc_value (insert items (suc q) high) q low ∙ ap (λ l. slice_set l q (arc_value low)) (map_insert arc_value items (suc q) high)
      ∙ (let ps = values_in items in
      let h' : q < length ps = subst (λ n. q < n) (sym (length-map items arc_value)) h in
      set-append_left (take (suc q) ps) (arc_value high ∷ drop (suc q) ps) q (arc_value low) (subst (λ n. q < n) (sym (length-take-le (suc q) ps (omega (arith, h')))) (omega arith))
      ∙ ap (λ l. l ++ (arc_value high ∷ drop (suc q) ps)) (set_last ps q (arc_value low) h') ∙ append_assoc (take q ps) (arc_value low ∷ []) (arc_value high ∷ drop (suc q) ps))

  -- a page put after others
  pub pushed : (items : List (Arc (List X) Z)) (a : Arc (List X) Z) → joined (values_in (items ++ a ∷ [])) ≡ joined (values_in items) ++ arc_value a
  pushed items a = ap joined (map-append arc_value items (a ∷ [])) ∙ flat_map-append (λ p. p) (values_in items) (arc_value a ∷ []) ∙ ap (λ l. joined (values_in items) ++ l) (append-nil (arc_value a))

  pub fit_pushed : (items : List (Arc (List X) Z)) (a : Arc (List X) Z) → AreFit (values_in items) → IsFit (arc_value a) → AreFit (values_in (items ++ a ∷ []))
  fit_pushed items a f i = subst AreFit (sym (map-append arc_value items (a ∷ []))) (all_joined IsFit (values_in items) (arc_value a ∷ []) f (i, tt))
