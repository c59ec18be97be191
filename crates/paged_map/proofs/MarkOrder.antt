-- A mark that stands after a key stands after each that is less.
use Rattle.std.proofs.Common.{◌≡◌, ℕ, ◌<◌, Bool, true, false, not, ◌||◌, ◌&&◌, nat_eq, List, [], ◌∷◌, take, length, refl, sym, ap, ◌∙◌, subst, true≢false, Ordering, Less, Equal, Greater, nat_cmp, is_gt, is_lt, arith}
use Rattle.std.specs.Ordering.{ordering_reverse, ordering_then}
use Rattle.std.specs.Cmp.{IsTotalOrder}
use Rattle.std.specs.Cmp.Lexicographic.{pointwise}
use Rattle.std.proofs.lemmas.Cmp.{nat_list_cmp_total, nat_cmp_total, ranked, alike_right}
use Rattle.paged_map.specs.declared.marks.Mark.{Mark}
use Rattle.paged_map.specs.declared.marks.Mark.TheVariants.{Before, After, Under}
use Rattle.paged_map.specs.Octets.{octets_cmp, begins_with, passes, reaches}

abbrev pub octets_total : IsTotalOrder octets_cmp
octets_total = nat_list_cmp_total

-- what isn't before y is after what is less
past : (m x y : List ℕ) → octets_cmp x y ≡ Less → not (is_lt (octets_cmp m y)) ≡ true → octets_cmp m x ≡ Greater
past m x y less at = by (octets_cmp m y) refl
  where
    by : (o : Ordering) → octets_cmp m y ≡ o → octets_cmp m x ≡ Greater
    by Less e = absurd (true≢false (sym at ∙ ap (λ o. not (is_lt o)) e))
    by Equal e = octets_total.congr m y x e ∙ octets_total.antisymm y x ∙ ap ordering_reverse less
    by Greater e = octets_total.antisymm m x ∙ ap ordering_reverse (octets_total.trans x y m less (octets_total.antisymm y m ∙ ap ordering_reverse e))

abbrev covers : List ℕ → List ℕ → Bool
covers m k = is_gt (octets_cmp m k) || begins_with k m

unequal : (a b : ℕ) → nat_cmp a b ≡ Less → nat_eq a b ≡ false
unequal a b e = let h : a < b = ranked a b Less (sym e) in grind (arith, h)

equal : (a b : ℕ) → nat_cmp a b ≡ Equal → nat_eq a b ≡ true
equal a b e = let h : a ≡ b = ranked a b Equal (sym e) in grind (arith, h)

covers_lower : (a b : ℕ) (m y : List ℕ) → nat_cmp a b ≡ Less → covers (a ∷ m) (b ∷ y) ≡ false
covers_lower a b m y e =
    ap (λ o. is_gt (ordering_then o (octets_cmp m y)) || (nat_eq a b && pointwise nat_eq m (take (length m) y))) e ∙ ap (λ t. t && pointwise nat_eq m (take (length m) y)) (unequal a b e)

covers_same : (a b : ℕ) (m y : List ℕ) → nat_cmp a b ≡ Equal → covers (a ∷ m) (b ∷ y) ≡ covers m y
covers_same a b m y e =
    ap (λ o. is_gt (ordering_then o (octets_cmp m y)) || (nat_eq a b && pointwise nat_eq m (take (length m) y))) e
    ∙ ap (λ t. is_gt (octets_cmp m y) || (t && pointwise nat_eq m (take (length m) y))) (equal a b e)

covers_higher : (a b : ℕ) (m y : List ℕ) → nat_cmp a b ≡ Greater → covers (a ∷ m) (b ∷ y) ≡ true
covers_higher a b m y e = ap (λ o. is_gt (ordering_then o (octets_cmp m y)) || (nat_eq a b && pointwise nat_eq m (take (length m) y))) e

-- what a number is above is above what is less
over : (a b c : ℕ) → nat_cmp c b ≡ Less → nat_cmp a b ≡ Greater → nat_cmp a c ≡ Greater
over a b c l e = nat_cmp_total.antisymm a c ∙ ap ordering_reverse (nat_cmp_total.trans c b a l (nat_cmp_total.antisymm b a ∙ ap ordering_reverse e))

covers_less : (m x y : List ℕ) → octets_cmp x y ≡ Less → covers m y ≡ true → covers m x ≡ true
covers_less [] [] y less at = refl
covers_less [] (c ∷ x) y less at = refl
covers_less (a ∷ m) [] y less at = refl
covers_less (a ∷ m) (c ∷ x) [] less at = absurd (true≢false (sym (ap is_lt less)))
covers_less (a ∷ m) (c ∷ x) (b ∷ y) less at = by (nat_cmp c b) refl less (covers_less m x y)
  where
    below : nat_cmp c b ≡ Less → (o : Ordering) → nat_cmp a b ≡ o → covers (a ∷ m) (c ∷ x) ≡ true
    below l Less e = absurd (true≢false (sym at ∙ covers_lower a b m y e))
    below l Equal e = covers_higher a c m x (nat_cmp_total.congr a b c e ∙ nat_cmp_total.antisymm b c ∙ ap ordering_reverse l)
    below l Greater e = covers_higher a c m x (over a b c l e)

    level : nat_cmp c b ≡ Equal → octets_cmp x y ≡ Less → (octets_cmp x y ≡ Less → covers m y ≡ true → covers m x ≡ true) → (o : Ordering) → nat_cmp a b ≡ o → covers (a ∷ m) (c ∷ x) ≡ true
    level t l h Less e = absurd (true≢false (sym at ∙ covers_lower a b m y e))
    level t l h Equal e = covers_same a c m x (alike_right nat_cmp_total c b a t ∙ e) ∙ h l (sym (covers_same a b m y e) ∙ at)
    level t l h Greater e = covers_higher a c m x (alike_right nat_cmp_total c b a t ∙ e)

    by : (o : Ordering) → nat_cmp c b ≡ o → ordering_then o (octets_cmp x y) ≡ Less → (octets_cmp x y ≡ Less → covers m y ≡ true → covers m x ≡ true) → covers (a ∷ m) (c ∷ x) ≡ true
    by Less e l h = below e (nat_cmp a b) refl
    by Equal e l h = level e l h (nat_cmp a b) refl
    by Greater e l h = absurd (true≢false (ap is_gt l))

-- a page that reaches to a mark has what is less than its first key before it
pub passes_reached : (m : Mark) (x y : List ℕ) → octets_cmp x y ≡ Less → reaches m y ≡ true → passes m x ≡ true
passes_reached (Before m) x y less at = ap is_gt (past m.now x y less at)
passes_reached (After m) x y less at = ap (λ o. not (is_lt o)) (past m.now x y less at)
passes_reached (Under m) x y less at = covers_less m.now x y less at

pub reaches_passed : (m : Mark) (x : List ℕ) → passes m x ≡ true → reaches m x ≡ true
reaches_passed (Before m) x at = by (octets_cmp m.now x) at
  where
    by : (o : Ordering) → is_gt o ≡ true → not (is_lt o) ≡ true
    by Less e = absurd (true≢false (sym e))
    by Equal e = absurd (true≢false (sym e))
    by Greater e = refl
reaches_passed (After m) x at = at
reaches_passed (Under m) x at = at

pub reaches_falls : (m : Mark) (x y : List ℕ) → octets_cmp x y ≡ Less → reaches m y ≡ true → reaches m x ≡ true
reaches_falls m x y less at = reaches_passed m x (passes_reached m x y less at)

pub passes_falls : (m : Mark) (x y : List ℕ) → octets_cmp x y ≡ Less → passes m y ≡ true → passes m x ≡ true
passes_falls m x y less at = passes_reached m x y less (reaches_passed m y at)

pub flipped : (a b : Bool) → (a ≡ true → b ≡ true) → b ≡ false → a ≡ false
flipped false b f e = refl
flipped true b f e = absurd (true≢false (sym (f refl) ∙ e))

-- what a page doesn't reach to isn't before a mark
pub ahead_unreached : (m : Mark) (x : List ℕ) → reaches m x ≡ false → passes m x ≡ false
ahead_unreached m x f = flipped (passes m x) (reaches m x) (reaches_passed m x) f

pub unreached_rises : (m : Mark) (x y : List ℕ) → octets_cmp x y ≡ Less → reaches m x ≡ false → reaches m y ≡ false
unreached_rises m x y less f = flipped (reaches m y) (reaches m x) (reaches_falls m x y less) f
