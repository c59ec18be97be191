-- A look through entries in order, from a string of octets on.
use Rattle.std.proofs.Common.{◌≡◌, ℕ, Bool, true, false, cond, ◌&&◌, ◌||◌, ◌==◌, not, List, [], ◌∷◌, ◌++◌, filter, length, refl, sym, ap, ◌∙◌, subst, true≢false, append_assoc, Ordering, Less, Equal, Greater, Option, Some, None, is_some, unwrap_or, arith, suc, ◌<◌, ◌≤◌, is_eq, is_lt, is_le, nat_cmp, nat_eq, eqb-true, eq-eqb}
use Rattle.std.specs.Option.{option_or}
use Rattle.std.specs.Ordering.{match_ordering, ordering_then, ordering_reverse}
use Rattle.std.specs.Cmp.{tied_itself, alike_right, nat_cmp_total, first_so, second_so}
use Rattle.std.specs.Cmp.Lexicographic.{nat_list_cmp_total}
use Rattle.std.specs.List.{list_any, find, AllByRecursion}
use Rattle.std.specs.List.Sorted.{IsStrictlySortedBy}
use Rattle.std.specs.BTreeMap.{insert_entry}
use Rattle.std.specs.Map.{keys_of}
use Rattle.std.proofs.lemmas.List.Folds.{find-append}
use Rattle.std.proofs.lemmas.Map.Keys.{sorted_head, sorted_tail}
use Rattle.std.proofs.lemmas.Map.Lookups.{exact_unsigned}
use Rattle.paged_map.specs.Octets.{octets_cmp, begins_with}
use Rattle.zone_model.proofs.Ordered.{below_all}
use Rattle.zone_versions.specs.Trees.{NodeSets}
use Rattle.zone_versions.specs.Keyed.{Keyed, holds_besides, from_entry, left_from}

abbrev pub OneKept : Type 0
OneKept = List ℕ × NodeSets

and_true : (b : Bool) → (b && true) ≡ b
and_true true = refl
and_true false = refl

pub and_false : (b : Bool) → (b && false) ≡ false
and_false true = refl
and_false false = refl

-- ---- an entry that holds nothing in place of another

module _ (q : OneKept → Bool) (nothing : (k : List ℕ) → q (k, []) ≡ false) (k : List ℕ) where
  abbrev pub apart : OneKept → Bool
  apart e = q e && not (is_eq (octets_cmp k e.0))

  any_apart : (es : Keyed) → AllByRecursion (λ y. octets_cmp k y ≡ Less) (keys_of es) → list_any apart es ≡ list_any q es
  any_apart [] b = refl
  any_apart (e ∷ es) b = λ i. (ap (λ o. q e && not (is_eq o)) b.0 ∙ and_true (q e)) i || any_apart es b.1 i

  pub any_emptied : (es : Keyed) → IsStrictlySortedBy octets_cmp (keys_of es) → list_any q (insert_entry octets_cmp es k []) ≡ list_any apart es
  any_emptied [] s = ap (λ b. b || false) (nothing k)
  any_emptied (e ∷ es) s = by (octets_cmp k e.0) refl (any_emptied es (sorted_tail octets_cmp e.0 (keys_of es) s))
    where
      below : AllByRecursion (λ y. octets_cmp e.0 y ≡ Less) (keys_of es)
      below = sorted_head octets_cmp e.0 (keys_of es) s

      tied : octets_cmp k e.0 ≡ Equal → (fs : Keyed) → AllByRecursion (λ y. octets_cmp e.0 y ≡ Less) (keys_of fs) → AllByRecursion (λ y. octets_cmp k y ≡ Less) (keys_of fs)
      tied t [] b = tt
      tied t (f ∷ fs) b = (nat_list_cmp_total.congr k e.0 f.0 t ∙ b.0, tied t fs b.1)

      by : (o : Ordering) → octets_cmp k e.0 ≡ o → list_any q (insert_entry octets_cmp es k []) ≡ list_any apart es
          → list_any q (match_ordering o ((k, []) ∷ e ∷ es) ((e.0, []) ∷ es) (e ∷ insert_entry octets_cmp es k [])) ≡ ((q e && not (is_eq (octets_cmp k e.0))) || list_any apart es)
      by Less p h =
          ap (λ b. b || (q e || list_any q es)) (nothing k)
          ∙ sym (λ i. (ap (λ r. q e && not (is_eq r)) p ∙ and_true (q e)) i || any_apart es (below_all nat_list_cmp_total k e.0 es p below) i)
      by Equal p h =
          ap (λ b. b || list_any q es) (nothing e.0)
          ∙ sym (λ i. (ap (λ r. q e && not (is_eq r)) p ∙ and_false (q e)) i || any_apart es (tied p es below) i)
      by Greater p h = (λ i. q e || h i) ∙ sym (ap (λ b. b || list_any apart es) (ap (λ r. q e && not (is_eq r)) p ∙ and_true (q e)))

-- ---- what begins with a string lies together

-- what begins with a string isn't before it
pub begins_after : (p y : List ℕ) → begins_with y p ≡ true → is_le (octets_cmp p y) ≡ true
begins_after [] [] h = refl
begins_after [] (d ∷ y) h = refl
begins_after (c ∷ p) [] h = absurd (true≢false (sym h))
begins_after (c ∷ p) (d ∷ y) h =
    ap (λ o. is_le (ordering_then o (octets_cmp p y))) (ap (nat_cmp c) (sym (eqb-true c d (first_so (nat_eq c d) (begins_with y p) h))) ∙ tied_itself nat_cmp_total c)
    ∙ begins_after p y (second_so (nat_eq c d) (begins_with y p) h)

-- between a string and one that begins with it each begins with it
pub begins_between : (p x y : List ℕ) → is_le (octets_cmp p x) ≡ true → octets_cmp x y ≡ Less → begins_with y p ≡ true → begins_with x p ≡ true
begins_between [] x y h g b = refl
begins_between (c ∷ p) [] y h g b = absurd (true≢false (sym h))
begins_between (c ∷ p) (d ∷ x) [] h g b = absurd (true≢false (sym b))
begins_between (c ∷ p) (d ∷ x) (e ∷ y) h g b =
    by (nat_cmp c d) refl (λ h1 g1. begins_between p x y h1 g1 (second_so (nat_eq c e) (begins_with y p) b))
  where
    same : c ≡ e
    same = eqb-true c e (first_so (nat_eq c e) (begins_with y p) b)

    by : (o : Ordering) → nat_cmp c d ≡ o → (is_le (octets_cmp p x) ≡ true → octets_cmp x y ≡ Less → begins_with x p ≡ true) → (nat_eq c d && begins_with x p) ≡ true
    by Less q later =
        let back : nat_cmp d e ≡ Greater = ap (nat_cmp d) (sym same) ∙ nat_cmp_total.antisymm d c ∙ ap ordering_reverse q in
        absurd (cc (sym (ap (λ o. ordering_then o (octets_cmp x y)) back) ∙ g))
    by Equal q later =
        let at : c ≡ d = exact_unsigned c d q in
        ap (λ b. b && begins_with x p) (eq-eqb c d at)
        ∙ later (sym (ap (λ o. is_le (ordering_then o (octets_cmp p x))) q) ∙ h) (sym (ap (λ o. ordering_then o (octets_cmp x y)) (ap (nat_cmp d) (sym same ∙ at) ∙ tied_itself nat_cmp_total d)) ∙ g)
    by Greater q later = absurd (true≢false (sym h ∙ ap (λ o. is_le (ordering_then o (octets_cmp p x))) q))

-- ---- the look

module _ (p o : List ℕ) where
  abbrev holds : OneKept → Bool
  holds = holds_besides p o

  -- an entry from the string on, before which none holds
  pub record At (es : Keyed) (e : OneKept) : Type 0 where
    pub before : Keyed
    pub rest : Keyed
    pub split : es ≡ before ++ e ∷ rest
    pub none : list_any holds before ≡ false
    pub from : is_le (octets_cmp p e.0) ≡ true

  -- where the look stands
  abbrev pub Remains : Keyed → Option OneKept → Type 0
  Remains es None = list_any holds es ≡ false
  Remains es (Some e) = At es e

  any-append : (xs ys : Keyed) → list_any holds (xs ++ ys) ≡ (list_any holds xs || list_any holds ys)
  any-append [] ys = refl
  any-append (x ∷ xs) ys = by (holds x) (any-append xs ys)
    where
      by : (b : Bool) → list_any holds (xs ++ ys) ≡ (list_any holds xs || list_any holds ys) → (b || list_any holds (xs ++ ys)) ≡ ((b || list_any holds xs) || list_any holds ys)
      by true h = refl
      by false h = h

  -- an entry before the string doesn't hold
  early : (e : OneKept) → is_le (octets_cmp p e.0) ≡ false → holds e ≡ false
  early e h = by (begins_with e.0 p) refl
    where
      by : (b : Bool) → begins_with e.0 p ≡ b → ((b && not (length e.1 == 0)) && not (is_eq (octets_cmp o e.0))) ≡ false
      by true q = absurd (true≢false (sym (begins_after p e.0 q) ∙ h))
      by false q = refl

  pub look_starts : (es : Keyed) → Remains es (find (λ (e : OneKept). is_le (octets_cmp p e.0)) es)
  look_starts [] = refl
  look_starts (e ∷ es) = by (is_le (octets_cmp p e.0)) refl (look_starts es)
    where
      further : is_le (octets_cmp p e.0) ≡ false → (f : Option OneKept) → Remains es f → Remains (e ∷ es) f
      further q None r = ap (λ b. b || list_any holds es) (early e q) ∙ r
      further q (Some f) r = record { before = e ∷ r.before; rest = r.rest; split = ap (λ l. e ∷ l) r.split; none = ap (λ b. b || list_any holds r.before) (early e q) ∙ r.none; from = r.from }

      by : (b : Bool) → is_le (octets_cmp p e.0) ≡ b → Remains es (find (λ (f : OneKept). is_le (octets_cmp p f.0)) es) → Remains (e ∷ es) (cond b (Some e) (find (λ (f : OneKept). is_le (octets_cmp p f.0)) es))
      by true q r = record { before = []; rest = es; split = refl; none = refl; from = q }
      by false q r = further q (find (λ (f : OneKept). is_le (octets_cmp p f.0)) es) r

  -- ---- what stands about an entry in order

  in_middle : (Q : List ℕ → Type 0) (xs : Keyed) (e : OneKept) (ys : Keyed) → AllByRecursion Q (keys_of (xs ++ e ∷ ys)) → Q e.0
  in_middle Q [] e ys a = a.0
  in_middle Q (x ∷ xs) e ys a = in_middle Q xs e ys a.1

  before_less : (xs : Keyed) (e : OneKept) (ys : Keyed) → IsStrictlySortedBy octets_cmp (keys_of (xs ++ e ∷ ys)) → AllByRecursion (λ y. octets_cmp y e.0 ≡ Less) (keys_of xs)
  before_less [] e ys s = tt
  before_less (x ∷ xs) e ys s =
      (in_middle (λ y. octets_cmp x.0 y ≡ Less) xs e ys (sorted_head octets_cmp x.0 (keys_of (xs ++ e ∷ ys)) s), before_less xs e ys (sorted_tail octets_cmp x.0 (keys_of (xs ++ e ∷ ys)) s))

  last_sorted : (xs ys : Keyed) → IsStrictlySortedBy octets_cmp (keys_of (xs ++ ys)) → IsStrictlySortedBy octets_cmp (keys_of ys)
  last_sorted [] ys s = s
  last_sorted (x ∷ xs) ys s = last_sorted xs ys (sorted_tail octets_cmp x.0 (keys_of (xs ++ ys)) s)

  none_after : (e : OneKept) (xs : Keyed) → AllByRecursion (λ y. octets_cmp y e.0 ≡ Less) (keys_of xs) → find (λ (f : OneKept). is_lt (octets_cmp e.0 f.0)) xs ≡ None
  none_after e [] a = refl
  none_after e (x ∷ xs) a =
      ap (λ r. cond (is_lt r) (Some x) (find (λ (f : OneKept). is_lt (octets_cmp e.0 f.0)) xs)) (nat_list_cmp_total.antisymm e.0 x.0 ∙ ap ordering_reverse a.0) ∙ none_after e xs a.1

  le_less : (x y : List ℕ) → is_le (octets_cmp p x) ≡ true → octets_cmp x y ≡ Less → is_le (octets_cmp p y) ≡ true
  le_less x y h g = by (octets_cmp p x) refl
    where
      by : (r : Ordering) → octets_cmp p x ≡ r → is_le (octets_cmp p y) ≡ true
      by Less q = ap is_le (nat_list_cmp_total.trans p x y q g)
      by Equal q = ap is_le (nat_list_cmp_total.congr p x y q ∙ g)
      by Greater q = absurd (true≢false (sym h ∙ ap is_le q))

  any_split : (es : Keyed) (e : OneKept) (a : At es e) → list_any holds es ≡ (holds e || list_any holds a.rest)
  any_split es e a = ap (list_any holds) a.split ∙ any-append a.before (e ∷ a.rest) ∙ ap (λ b. b || (holds e || list_any holds a.rest)) a.none

  pub look_next : (es : Keyed) (e : OneKept) → IsStrictlySortedBy octets_cmp (keys_of es) → At es e → holds e ≡ false → Remains es (find (λ (f : OneKept). is_lt (octets_cmp e.0 f.0)) es)
  look_next es e s a h =
      subst (λ l. Remains es (find (λ (f : OneKept). is_lt (octets_cmp e.0 f.0)) l)) (sym a.split)
      (subst (Remains es) (sym (find-append (λ (f : OneKept). is_lt (octets_cmp e.0 f.0)) a.before (e ∷ a.rest) ∙ (λ i. option_or (none_after e a.before (before_less a.before e a.rest sorted) i) (here i))))
      (by a.rest a.split (sorted_head octets_cmp e.0 (keys_of a.rest) (last_sorted a.before (e ∷ a.rest) sorted))))
    where
      sorted : IsStrictlySortedBy octets_cmp (keys_of (a.before ++ e ∷ a.rest))
      sorted = subst (λ l. IsStrictlySortedBy octets_cmp (keys_of l)) a.split s

      here : find (λ (f : OneKept). is_lt (octets_cmp e.0 f.0)) (e ∷ a.rest) ≡ find (λ (f : OneKept). is_lt (octets_cmp e.0 f.0)) a.rest
      here = ap (λ r. cond (is_lt r) (Some e) (find (λ (f : OneKept). is_lt (octets_cmp e.0 f.0)) a.rest)) (tied_itself nat_list_cmp_total e.0)

      none_upto : list_any holds (a.before ++ e ∷ []) ≡ false
      none_upto = any-append a.before (e ∷ []) ∙ (λ i. a.none i || (h i || false))

      by : (rest : Keyed) → es ≡ a.before ++ e ∷ rest → AllByRecursion (λ y. octets_cmp e.0 y ≡ Less) (keys_of rest) → Remains es (find (λ (f : OneKept). is_lt (octets_cmp e.0 f.0)) rest)
      by [] split b = ap (list_any holds) split ∙ none_upto
      by (r ∷ rest) split b =
          subst (λ o. Remains es (cond (is_lt o) (Some r) (find (λ (f : OneKept). is_lt (octets_cmp e.0 f.0)) rest))) (sym b.0)
          (record { before = a.before ++ e ∷ []; rest = rest; split = split ∙ sym (append_assoc a.before (e ∷ []) (r ∷ rest)); none = none_upto; from = le_less e.0 r.0 a.from b.0 })

  pub look_out : (es : Keyed) (e : OneKept) → IsStrictlySortedBy octets_cmp (keys_of es) → At es e → begins_with e.0 p ≡ false → list_any holds es ≡ false
  look_out es e s a h =
      any_split es e a
      ∙ (λ i. ((h i && not (length e.1 == 0)) && not (is_eq (octets_cmp o e.0))) || none a.rest (sorted_head octets_cmp e.0 (keys_of a.rest) (last_sorted a.before (e ∷ a.rest) (subst (λ l. IsStrictlySortedBy octets_cmp (keys_of l)) a.split s))) i)
    where
      one : (f : OneKept) → octets_cmp e.0 f.0 ≡ Less → (b : Bool) → begins_with f.0 p ≡ b → b ≡ false
      one f l true q = absurd (true≢false (sym (begins_between p e.0 f.0 a.from l q) ∙ h))
      one f l false q = refl

      none : (fs : Keyed) → AllByRecursion (λ y. octets_cmp e.0 y ≡ Less) (keys_of fs) → list_any holds fs ≡ false
      none [] b = refl
      none (f ∷ fs) b = λ i. ((one f b.0 (begins_with f.0 p) refl i && not (length f.1 == 0)) && not (is_eq (octets_cmp o f.0))) || none fs b.1 i

  pub look_in : (es : Keyed) (e : OneKept) → At es e → holds e ≡ true → list_any holds es ≡ true
  look_in es e a h = any_split es e a ∙ ap (λ b. b || list_any holds a.rest) h

-- ---- the look ends

not_longer : (q r : OneKept → Bool) → ((x : OneKept) → q x ≡ true → r x ≡ true) → (xs : Keyed) → length (filter q xs) ≤ length (filter r xs)
not_longer q r f [] = omega arith
not_longer q r f (x ∷ xs) = by (q x) refl (r x) refl (not_longer q r f xs)
  where
    by : (b : Bool) → q x ≡ b → (c : Bool) → r x ≡ c → length (filter q xs) ≤ length (filter r xs) → length (cond b (x ∷ filter q xs) (filter q xs)) ≤ length (cond c (x ∷ filter r xs) (filter r xs))
    by true e true g h = omega arith
    by true e false g h = absurd (true≢false (sym (f x e) ∙ g))
    by false e true g h = omega arith
    by false e false g h = h

shorter : (q r : OneKept → Bool) → ((x : OneKept) → q x ≡ true → r x ≡ true) → (xs : Keyed) (e : OneKept) (ys : Keyed) → q e ≡ false → r e ≡ true → length (filter q (xs ++ e ∷ ys)) < length (filter r (xs ++ e ∷ ys))
shorter q r f [] e ys lacks is =
    let rest = not_longer q r f ys in
    let a : length (filter q (e ∷ ys)) ≡ length (filter q ys) = ap (λ b. length (cond b (e ∷ filter q ys) (filter q ys))) lacks in
    let b : length (filter r (e ∷ ys)) ≡ suc (length (filter r ys)) = ap (λ b. length (cond b (e ∷ filter r ys) (filter r ys))) is in
    omega (arith, rest, a, b)
shorter q r f (x ∷ xs) e ys lacks is = by (q x) refl (r x) refl (shorter q r f xs e ys lacks is)
  where
    by : (b : Bool) → q x ≡ b → (c : Bool) → r x ≡ c → length (filter q (xs ++ e ∷ ys)) < length (filter r (xs ++ e ∷ ys))
        → length (cond b (x ∷ filter q (xs ++ e ∷ ys)) (filter q (xs ++ e ∷ ys))) < length (cond c (x ∷ filter r (xs ++ e ∷ ys)) (filter r (xs ++ e ∷ ys)))
    by true e true g h = omega arith
    by true e false g h = absurd (true≢false (sym (f x e) ∙ g))
    by false e true g h = omega arith
    by false e false g h = h

found_passes : (q : OneKept → Bool) (es : Keyed) (f : OneKept) → find q es ≡ Some f → q f ≡ true
found_passes q [] f h = absurd (true≢false (sym (ap is_some h)))
found_passes q (e ∷ es) f h = by (q e) refl h (λ g. found_passes q es f g)
  where
    by : (b : Bool) → q e ≡ b → cond b (Some e) (find q es) ≡ Some f → (find q es ≡ Some f → q f ≡ true) → q f ≡ true
    by true p g later = ap (λ o. q (unwrap_or o f)) (sym g) ∙ p
    by false p g later = later g

pub look_shrinks : (p o : List ℕ) (es : Keyed) (e : OneKept) → At p o es e → left_from es (find (λ (f : OneKept). is_lt (octets_cmp e.0 f.0)) es) < left_from es (Some e)
look_shrinks p o es e a =
    let next : Option OneKept = find (λ (f : OneKept). is_lt (octets_cmp e.0 f.0)) es in
    subst (λ l. length (filter (from_entry next) l) < length (filter (from_entry (Some e)) l)) (sym a.split)
    (shorter (from_entry next) (from_entry (Some e)) (λ x. further (find (λ (f : OneKept). is_lt (octets_cmp e.0 f.0)) es) refl x) a.before e a.rest (not_here (find (λ (f : OneKept). is_lt (octets_cmp e.0 f.0)) es) refl)
    (ap is_le (tied_itself nat_list_cmp_total e.0)))
  where
    less : (f : OneKept) → find (λ (f : OneKept). is_lt (octets_cmp e.0 f.0)) es ≡ Some f → octets_cmp e.0 f.0 ≡ Less
    less f g = by (octets_cmp e.0 f.0) (found_passes (λ (f : OneKept). is_lt (octets_cmp e.0 f.0)) es f g)
      where
        by : (r : Ordering) → is_lt r ≡ true → r ≡ Less
        by Less h = refl
        by Equal h = absurd (true≢false (sym h))
        by Greater h = absurd (true≢false (sym h))

    further : (n : Option OneKept) → find (λ (f : OneKept). is_lt (octets_cmp e.0 f.0)) es ≡ n → (x : OneKept) → from_entry n x ≡ true → is_le (octets_cmp e.0 x.0) ≡ true
    further None g x h = absurd (true≢false (sym h))
    further (Some f) g x h = by (octets_cmp f.0 x.0) refl
      where
        by : (r : Ordering) → octets_cmp f.0 x.0 ≡ r → is_le (octets_cmp e.0 x.0) ≡ true
        by Less q = ap is_le (nat_list_cmp_total.trans e.0 f.0 x.0 (less f g) q)
        by Equal q = ap is_le (sym (alike_right nat_list_cmp_total f.0 x.0 e.0 q) ∙ less f g)
        by Greater q = absurd (true≢false (sym h ∙ ap is_le q))

    not_here : (n : Option OneKept) → find (λ (f : OneKept). is_lt (octets_cmp e.0 f.0)) es ≡ n → from_entry n e ≡ false
    not_here None g = refl
    not_here (Some f) g = ap is_le (nat_list_cmp_total.antisymm f.0 e.0 ∙ ap ordering_reverse (less f g))
