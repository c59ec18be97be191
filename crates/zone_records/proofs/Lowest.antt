-- The least of some numbers.
use Rattle.std.proofs.Common.{◌≡◌, ℕ, ◌+◌, ◌≤◌, ◌<◌, ◌==◌, Bool, true, false, cond, ◌&&◌, ◌||◌, not, nat_le, if◌then◌else◌, List, [], ◌∷◌, filter, refl, sym, ap, subst, ◌∙◌, true≢false, Option, Some, None, min, arith, eqb-true, eq-eqb, leb-true, leb-false}
use Rattle.std.specs.List.{list_any, find}
use Rattle.std.specs.Option.{option_map_or}
use Rattle.zone_model.specs.Classify.{least}

-- the least number that a test accepts, or that there is none
abbrev pub Lowest : (ℕ → Bool) → Option ℕ → Type 0
Lowest has None = (t : ℕ) → has t ≡ false
Lowest has (Some n) = (has n ≡ true) × ((t : ℕ) → has t ≡ true → n ≤ t)

pub lowest_one : (has : ℕ → Bool) (o q : Option ℕ) → Lowest has o → Lowest has q → o ≡ q
lowest_one has None None h g = refl
lowest_one has None (Some m) h g = absurd (true≢false (sym g.0 ∙ h m))
lowest_one has (Some n) None h g = absurd (true≢false (sym h.0 ∙ g n))
lowest_one has (Some n) (Some m) h g =
    let a : n ≤ m = h.1 m g.0 in
    let b : m ≤ n = g.1 n h.0 in
    let e : n ≡ m = omega arith in
    ap Some e

-- a test that answers the same has the same least number
pub lowest_same : (has like : ℕ → Bool) (o : Option ℕ) → ((t : ℕ) → like t ≡ has t) → Lowest has o → Lowest like o
lowest_same has like None e h = λ t. e t ∙ h t
lowest_same has like (Some n) e h = (e n ∙ h.0, λ t g. h.1 t (sym (e t) ∙ g))

abbrev pub is_in : List ℕ → ℕ → Bool
is_in xs t = list_any (λ x. x == t) xs

pub either_so : {P : Type 0} (a b : Bool) → (a || b) ≡ true → (a ≡ true → P) → (b ≡ true → P) → P
either_so true b h f g = f refl
either_so false b h f g = g h

pub so_or : (b : Bool) → (b || true) ≡ true
so_or true = refl
so_or false = refl

pub not_and : (b : Bool) → (b && false) ≡ false
not_and true = refl
not_and false = refl

lower : (x m : ℕ) (xs : List ℕ) (b : Bool) → nat_le x m ≡ b → is_in xs m ≡ true → (x == min x m || is_in xs (min x m)) ≡ true
lower x m xs true g h =
    let l : x ≤ m = leb-true x m g in
    let e : x ≡ min x m = omega arith in
    ap (λ c. c || is_in xs (min x m)) (eq-eqb x (min x m) e)
lower x m xs false g h =
    let l : m < x = leb-false x m g in
    let e : m ≡ min x m = omega arith in
    ap (λ c. x == min x m || c) (subst (λ k. is_in xs k ≡ true) e h) ∙ so_or (x == min x m)

pub least_lowest : (xs : List ℕ) → Lowest (is_in xs) (least xs)
least_lowest [] = λ t. refl
least_lowest (x ∷ xs) = by (least xs) (least_lowest xs)
  where
    by : (o : Option ℕ) → Lowest (is_in xs) o → Lowest (is_in (x ∷ xs)) (Some (option_map_or (min x) o x))
    by None h = (
      ap (λ c. c || is_in xs x) (eq-eqb x x refl),
      λ t g. either_so (x == t) (is_in xs t) g (λ a. let e : x ≡ t = eqb-true x t a in omega arith) (λ a. absurd (true≢false (sym a ∙ h t))),
    )
    by (Some m) h = (
      lower x m xs (nat_le x m) refl h.0,
      λ t g. either_so (x == t) (is_in xs t) g (λ a. let e : x ≡ t = eqb-true x t a in omega arith) (λ a. let l : m ≤ t = h.1 t a in omega arith),
    )

-- a number is among those that a test accepts where it is among all and accepted
pub in_filter : (p : ℕ → Bool) (xs : List ℕ) (t : ℕ) → is_in (filter p xs) t ≡ (is_in xs t && p t)
in_filter p [] t = refl
in_filter p (x ∷ xs) t = by (p x) (x == t) refl refl (in_filter p xs t)
  where
    by : (b c : Bool) → p x ≡ b → (x == t) ≡ c → is_in (filter p xs) t ≡ (is_in xs t && p t) → is_in (cond b (x ∷ filter p xs) (filter p xs)) t ≡ ((c || is_in xs t) && p t)
    by true true e g later = ap (λ d. d || is_in (filter p xs) t) g ∙ sym (ap p (sym (eqb-true x t g)) ∙ e)
    by true false e g later = ap (λ d. d || is_in (filter p xs) t) g ∙ later
    by false true e g later =
        let n : p t ≡ false = ap p (sym (eqb-true x t g)) ∙ e in
        later ∙ ap (λ d. is_in xs t && d) n ∙ not_and (is_in xs t) ∙ sym n
    by false false e g later = later

pub least_by : (p : ℕ → Bool) (xs : List ℕ) (o : Option ℕ) → Lowest (λ t. is_in xs t && p t) o → least (filter p xs) ≡ o
least_by p xs o h = lowest_one (is_in (filter p xs)) (least (filter p xs)) o (least_lowest (filter p xs)) (lowest_same (λ t. is_in xs t && p t) (is_in (filter p xs)) o (in_filter p xs) h)

-- ---- lists of the same numbers

pub least_alike : (xs ys : List ℕ) → ((t : ℕ) → is_in xs t ≡ is_in ys t) → least xs ≡ least ys
least_alike xs ys e = lowest_one (is_in xs) (least xs) (least ys) (least_lowest xs) (lowest_same (is_in ys) (is_in xs) (least ys) e (least_lowest ys))

pub filtered_alike : (p : ℕ → Bool) (xs ys : List ℕ) → ((t : ℕ) → is_in xs t ≡ is_in ys t) → least (filter p xs) ≡ least (filter p ys)
filtered_alike p xs ys e = least_alike (filter p xs) (filter p ys) (λ t. in_filter p xs t ∙ ap (λ b. b && p t) (e t) ∙ sym (in_filter p ys t))

pub find_in : (n : ℕ) (xs : List ℕ) → find (λ x. x == n) xs ≡ (if is_in xs n then Some n else None)
find_in n [] = refl
find_in n (x ∷ xs) = by (x == n) refl (find_in n xs)
  where
    by : (c : Bool) → (x == n) ≡ c → find (λ y. y == n) xs ≡ (if is_in xs n then Some n else None) → cond c (Some x) (find (λ y. y == n) xs) ≡ (if c || is_in xs n then Some n else None)
    by true g later = ap Some (eqb-true x n g)
    by false g later = later

pub find_alike : (n : ℕ) (xs ys : List ℕ) → ((t : ℕ) → is_in xs t ≡ is_in ys t) → find (λ x. x == n) xs ≡ find (λ x. x == n) ys
find_alike n xs ys e = find_in n xs ∙ ap (λ b. if b then Some n else None) (e n) ∙ sym (find_in n ys)

-- ---- the least but one

-- a least number that a further test accepts stays the least
pub lowest_kept : (has p : ℕ → Bool) (o : Option ℕ) → Lowest has o → ((n : ℕ) → o ≡ Some n → p n ≡ true) → Lowest (λ t. has t && p t) o
lowest_kept has p None h g = λ t. ap (λ b. b && p t) (h t)
lowest_kept has p (Some n) h g = (ap (λ b. b && p n) h.0 ∙ g n refl, λ t k. h.1 t (left_so (has t) (p t) k))
  where
    left_so : (a b : Bool) → (a && b) ≡ true → a ≡ true
    left_so true b k = refl
    left_so false b k = k

-- where it isn't, the least of those above it is the least of the others
pub lowest_next : (has : ℕ → Bool) (n m : ℕ) (o : Option ℕ) → m ≡ n + 1 → Lowest has (Some n) → Lowest (λ t. has t && nat_le m t) o → Lowest (λ t. has t && not (t == n)) o
lowest_next has n m o e h g = lowest_same (λ t. has t && nat_le m t) (λ t. has t && not (t == n)) o (λ t. by t (has t) (t == n) (nat_le m t) refl refl refl) g
  where
    by : (t : ℕ) (a b c : Bool) → has t ≡ a → (t == n) ≡ b → nat_le m t ≡ c → (a && not b) ≡ (a && c)
    by t false b c x y z = refl
    by t true true true x y z = let i : t ≡ n = eqb-true t n y in let l : m ≤ t = leb-true m t z in absurd (omega arith)
    by t true true false x y z = refl
    by t true false true x y z = refl
    by t true false false x y z =
        let a : n ≤ t = h.1 t x in
        let l : t < m = leb-false m t z in
        let i : t ≡ n = omega arith in
        absurd (true≢false (sym (eq-eqb t n i) ∙ y))
