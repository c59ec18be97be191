-- A place at which an entry stands: what a mark beside it says of all entries.
use Rattle.std.proofs.Common.{◌≡◌, ℕ, zero, suc, ◌+◌, ◌≤◌, ◌<◌, Bool, true, false, List, [], ◌∷◌, ◌++◌, take, drop, length, refl, sym, ap, ◌∙◌, subst, true≢false, append_assoc, Some, None, Option, is_some, IfSome, slice_get, option_map, unwrap_or, not, Ordering, Less, Equal, Greater, is_eq, is_lt, Bor, arith}
use Rattle.std.specs.List.{AllByRecursion}
use Rattle.std.specs.Map.{keys_of}
use Rattle.std.proofs.lemmas.Map.Keys.{sorted_head}
use Rattle.paged_map.specs.declared.marks.Mark.{Mark}
use Rattle.paged_map.specs.declared.marks.Mark.TheVariants.{Before}
use Rattle.paged_map.specs.declared.spots.Spot.{Spot}
use Rattle.paged_map.specs.Octets.{octets_cmp, passes, reaches, is_key_of}
use Rattle.paged_map.specs.Pages.{joined, Ascend, Passed, Ahead, Unreached, FollowsOne, HasAt, IsWithin, page_at, before, after, beyond}
use Rattle.paged_map.proofs.MarkOrder.{passes_falls, passes_reached, reaches_passed, flipped}
use Rattle.paged_map.proofs.Orders.{AllBelow, all_joined, ascend_back, passed_front}
use Rattle.paged_map.proofs.Places.{Pages}
use Rattle.paged_map.proofs.Cuts.{whole, from_here, within_some, page_within, key_at, has_at}

module _ {V : Type 0} (m : Mark) where
  ahead_above : (k : List ℕ) (es : List (List ℕ × V)) → AllBelow k es → passes m k ≡ false → Ahead m es
  ahead_above k [] b f = tt
  ahead_above k (e ∷ es) b f = (flipped (passes m e.0) (passes m k) (passes_falls m k e.0 b.0) f, ahead_above k es b.1 f)

  unreached_above : (k : List ℕ) (es : List (List ℕ × V)) → AllBelow k es → passes m k ≡ false → Unreached m es
  unreached_above k [] b f = tt
  unreached_above k (e ∷ es) b f = (flipped (reaches m e.0) (passes m k) (passes_reached m k e.0 b.0) f, unreached_above k es b.1 f)

  unreached_back : (xs ys : List (List ℕ × V)) → Unreached m (xs ++ ys) → Unreached m ys
  unreached_back [] ys u = u
  unreached_back (x ∷ xs) ys u = unreached_back xs ys u.1

  module _ (ps : Pages V) (s : Spot) (e : List ℕ × V) (here : slice_get (page_at ps s.page) s.at ≡ Some e) where
    pub within_here : IsWithin ps s
    within_here = let h : s.at < length (page_at ps s.page) = within_some (page_at ps s.page) s.at e here in (omega (arith, h), λ _. page_within ps s.page s.at e here)

    parted : joined ps ≡ before ps s ++ (e ∷ beyond ps s)
    parted = whole ps s within_here ∙ ap (λ l. before ps s ++ l) (from_here ps s e here)

    above : Ascend (joined ps) → AllBelow e.0 (beyond ps s)
    above sorted = sorted_head octets_cmp e.0 (keys_of (beyond ps s)) (ascend_back (before ps s) (e ∷ beyond ps s) (subst Ascend parted sorted))

    pub ahead_here : Ascend (joined ps) → passes m e.0 ≡ false → Ahead m (after ps s)
    ahead_here sorted f = subst (Ahead m) (sym (from_here ps s e here)) (f, ahead_above e.0 (beyond ps s) (above sorted) f)

    pub unreached_here : Ascend (joined ps) → passes m e.0 ≡ false → Unreached m (joined (drop (suc s.page) ps))
    unreached_here sorted f = unreached_back (drop (suc s.at) (page_at ps s.page)) (joined (drop (suc s.page) ps)) (unreached_above e.0 (beyond ps s) (above sorted) f)

    pub passed_here : Ascend (joined ps) → reaches m e.0 ≡ true → Passed m (before ps s)
    passed_here sorted r = passed_front m (before ps s) e (beyond ps s) (subst Ascend parted sorted) r

  take_one_more : (xs : List (List ℕ × V)) (i : ℕ) (x : List ℕ × V) → slice_get xs i ≡ Some x → take (suc i) xs ≡ take i xs ++ (x ∷ [])
  take_one_more [] i x h = absurd (true≢false (sym (ap is_some h)))
  take_one_more (y ∷ xs) zero x h = ap (λ o. unwrap_or o y ∷ []) h
  take_one_more (y ∷ xs) (suc i) x h = ap (λ l. y ∷ l) (take_one_more xs i x h)

  -- a mark that stands after the entry before a place has passed all before the place
  pub passed_after_one : (ps : Pages V) (q at : ℕ) → Ascend (joined ps) → FollowsOne m (page_at ps q) at → Passed m (before ps (record { page = q; at = at }))
  passed_after_one ps q zero sorted f = absurd f
  passed_after_one ps q (suc i) sorted f = by (slice_get (page_at ps q) i) refl f
    where
      is : (x : List ℕ × V) → Some (passes m x.0) ≡ Some true → passes m x.0 ≡ true
      is x h = ap (λ o. unwrap_or o false) h

      by : (o : Option (List ℕ × V)) → slice_get (page_at ps q) i ≡ o → option_map (λ e. passes m e.0) o ≡ Some true → Passed m (before ps (record { page = q; at = suc i }))
      by None e f = absurd (true≢false (sym (ap is_some f)))
      by (Some x) e f =
          subst (λ l. Passed m (joined (take q ps) ++ l)) (sym (take_one_more (page_at ps q) i x e))
          (subst (Passed m) (append_assoc (joined (take q ps)) (take i (page_at ps q)) (x ∷ []))
          (all_joined (λ y. passes m y.0 ≡ true) (before ps (record { page = q; at = i })) (x ∷ []) (passed_here ps (record { page = q; at = i }) x e sorted (reaches_passed m x.0 (is x f))) (is x f, tt)))

equals_reach : (o : Ordering) → is_eq o ≡ true → not (is_lt o) ≡ true
equals_reach Less h = absurd (true≢false (sym h))
equals_reach Equal h = refl
equals_reach Greater h = refl

-- a key that stands at a place, wherever the place came from
pub has_here : {V : Type 0} (key : Bor (List ℕ)) (ps : Pages V) (s : Spot) → Ascend (joined ps) → is_key_of key.now (slice_get (page_at ps s.page) s.at) ≡ true → HasAt key.now ps s
has_here key ps s sorted t =
    let h = key_at key.now (slice_get (page_at ps s.page) s.at) t in
    has_at key.now ps s (within_here (Before key) ps s h.0 h.1) (passed_here (Before key) ps s h.0 h.1 sorted (equals_reach (octets_cmp key.now h.0.0) h.2)) t
