-- The last entry of pages, and the two places beside it.
use Rattle.std.proofs.Common.{◌≡◌, ℕ, zero, suc, ◌+◌, true, false, List, [], ◌∷◌, ◌++◌, take, drop, length, refl, sym, ap, ◌∙◌, subst, append_assoc, Some, slice_get, unwrap_or, add-one, arith}
use Rattle.paged_map.specs.declared.marks.Mark.{Mark}
use Rattle.paged_map.specs.Octets.{passes, reaches}
use Rattle.paged_map.specs.Pages.{joined, Ascend, Passed, Ahead, Unreached, page_at, before, after}
use Rattle.paged_map.proofs.Orders.{all_joined, passed_front}
use Rattle.paged_map.proofs.Places.{Pages, split_joined}

module _ {X : Type 0} where
  append_none : (xs : List X) → xs ++ [] ≡ xs
  append_none [] = refl
  append_none (x ∷ xs) = ap (λ l. x ∷ l) (append_none xs)

  drop_all : (n : ℕ) (xs : List X) → n ≡ length xs → drop n xs ≡ []
  drop_all zero [] e = refl
  drop_all zero (x ∷ xs) e = absurd (omega (arith, e))
  drop_all (suc n) [] e = refl
  drop_all (suc n) (x ∷ xs) e = drop_all n xs (omega (arith, e))

  take_all : (n : ℕ) (xs : List X) → n ≡ length xs → take n xs ≡ xs
  take_all zero [] e = refl
  take_all zero (x ∷ xs) e = absurd (omega (arith, e))
  take_all (suc n) [] e = refl
  take_all (suc n) (x ∷ xs) e = ap (λ l. x ∷ l) (take_all n xs (omega (arith, e)))

  last_dropped : (i : ℕ) (xs : List X) (x : X) → suc i ≡ length xs → slice_get xs i ≡ Some x → drop i xs ≡ x ∷ []
  last_dropped i [] x e h = absurd (omega (arith, e))
  last_dropped zero (y ∷ []) x e h = ap (λ o. unwrap_or o y ∷ []) h
  last_dropped zero (y ∷ z ∷ xs) x e h = absurd (omega (arith, e))
  last_dropped (suc i) (y ∷ xs) x e h = last_dropped i xs x (omega (arith, e)) h

  last_taken : (i : ℕ) (xs : List X) (x : X) → suc i ≡ length xs → slice_get xs i ≡ Some x → xs ≡ take i xs ++ (x ∷ [])
  last_taken i [] x e h = absurd (omega (arith, e))
  last_taken zero (y ∷ []) x e h = ap (λ o. unwrap_or o y ∷ []) h
  last_taken zero (y ∷ z ∷ xs) x e h = absurd (omega (arith, e))
  last_taken (suc i) (y ∷ xs) x e h = ap (λ l. y ∷ l) (last_taken i xs x (omega (arith, e)) h)

module _ {V : Type 0} (m : Mark) (ps : Pages V) (q : ℕ) (last : suc q ≡ length ps) where
  none_behind : joined (drop (suc q) ps) ≡ []
  none_behind = ap joined (drop_all (suc q) ps last)

  pub unreached_behind : Unreached m (joined (drop (suc q) ps))
  unreached_behind = subst (Unreached m) (sym none_behind) tt

  module _ (i : ℕ) (e : List ℕ × V) (end : suc i ≡ length (page_at ps q)) (here : slice_get (page_at ps q) i ≡ Some e) where
    whole : joined ps ≡ (joined (take q ps) ++ take i (page_at ps q)) ++ (e ∷ [])
    whole =
        split_joined ps q (omega (arith, last)) ∙ ap (λ l. joined (take q ps) ++ (page_at ps q ++ l)) none_behind
        ∙ ap (λ l. joined (take q ps) ++ l) (append_none (page_at ps q) ∙ last_taken i (page_at ps q) e end here) ∙ sym (append_assoc (joined (take q ps)) (take i (page_at ps q)) (e ∷ []))

    -- a mark that a page at the last key reaches to has passed all before that
    pub passed_to_last : Ascend (joined ps) → reaches m e.0 ≡ true → Passed m (before ps (record { page = q; at = i }))
    passed_to_last s r = passed_front m (joined (take q ps) ++ take i (page_at ps q)) e [] (subst Ascend whole s) r

    pub passed_all : Ascend (joined ps) → reaches m e.0 ≡ true → passes m e.0 ≡ true → Passed m (before ps (record { page = q; at = i + 1 }))
    passed_all s r t =
        subst (λ l. Passed m (joined (take q ps) ++ l)) (sym (take_all (i + 1) (page_at ps q) (add-one i ∙ end) ∙ last_taken i (page_at ps q) e end here))
        (subst (Passed m) (append_assoc (joined (take q ps)) (take i (page_at ps q)) (e ∷ []))
        (all_joined (λ x. passes m x.0 ≡ true) (joined (take q ps) ++ take i (page_at ps q)) (e ∷ []) (passed_to_last s r) (t, tt)))

    pub ahead_last : passes m e.0 ≡ false → Ahead m (after ps (record { page = q; at = i }))
    ahead_last f = all_joined (λ x. passes m x.0 ≡ false) (drop i (page_at ps q)) (joined (drop (suc q) ps)) (subst (Ahead m) (sym (last_dropped i (page_at ps q) e end here)) (f, tt)) (subst (Ahead m) (sym none_behind) tt)
