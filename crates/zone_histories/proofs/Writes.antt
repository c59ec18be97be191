-- Writes by version, the last one apart.
use Rattle.std.proofs.Common.{◌≡◌, ℕ, zero, suc, ◌+◌, ◌-◌, ◌≤◌, ◌<◌, ◌==◌, nat_le, nat_lt, Bool, true, false, ◌&&◌, cond, List, [], ◌∷◌, ◌++◌, length, take, set, refl, sym, ap, ◌∙◌, not, is_some, if◌then◌else◌, subst, true≢false, Option, Some, None, Result, Ok, Err, OnOk, OnErr, arith}
use Rattle.std.specs.List.{list_all, filter, slice_get}
use Rattle.std.specs.Ordering.{nat_cmp, is_le, is_lt}
use Rattle.std.specs.Cmp.{first_so, second_so}
use Rattle.std.proofs.Math.Bool.{and-false}
use Rattle.std.proofs.lemmas.Bool.Decides.{nat_tests}
use Rattle.std.proofs.lemmas.Option.{slice_get_within}
use Rattle.std.proofs.lemmas.List.{append-nil}
use Rattle.std.proofs.lemmas.List.Elements.{filter-append}
use Rattle.std.proofs.lemmas.List.Folds.{list_all-append}
use Rattle.zone_histories.specs.Histories.{History, ascends, is_upto, value_at, before, written, removed}

pub both : (a b : Bool) → a ≡ true → b ≡ true → (a && b) ≡ true
both a b p q = ap (λ x. x && b) p ∙ q

-- ---- lists

-- a list is what stands before its last element, and that
last_at : {X : Type 0} (xs : List X) (n : ℕ) (x : X) → length xs ≡ suc n → slice_get xs n ≡ Some x → xs ≡ take n xs ++ x ∷ []
last_at [] n x len h = cc
last_at (y ∷ []) zero x len h = ap (λ z. z ∷ []) cc
last_at (y ∷ z ∷ xs) zero x len h = absurd (omega arith)
last_at (y ∷ xs) (suc n) x len h = ap (λ l. y ∷ l) (last_at xs n x (omega arith) h)

pub last_split : {X : Type 0} (xs : List X) (x : X) → slice_get xs (length xs - 1) ≡ Some x → xs ≡ take (length xs - 1) xs ++ x ∷ []
last_split [] x h = cc
last_split (y ∷ xs) x h =
    let n : length (y ∷ xs) ≡ suc (length (y ∷ xs) - 1) = omega arith in last_at (y ∷ xs) (length (y ∷ xs) - 1) x n h

pub some_last : {X : Type 0} (xs : List X) (x : X) → slice_get xs (length xs - 1) ≡ Some x → 1 ≤ length xs
some_last xs x h = let below = slice_get_within xs (length xs - 1) x h in omega arith

pub missing : {X : Type 0} (xs : List X) (n : ℕ) → slice_get xs n ≡ None → length xs ≤ n
missing [] n h = omega arith
missing (x ∷ xs) zero h = cc
missing (x ∷ xs) (suc n) h = let rest = missing xs n h in omega arith

pub empty_list : {X : Type 0} (xs : List X) → length xs ≤ 0 → xs ≡ []
empty_list [] h = refl
empty_list (x ∷ xs) h = absurd (omega arith)

pub nothing_last : {X : Type 0} (xs : List X) → slice_get xs (length xs - 1) ≡ None → xs ≡ []
nothing_last xs h = let over = missing xs (length xs - 1) h in empty_list xs (omega arith)

pub nothing_first : {X : Type 0} (xs : List X) → slice_get xs 0 ≡ None → xs ≡ []
nothing_first xs h = empty_list xs (missing xs 0 h)

last_passes : {X : Type 0} (p : X → Bool) (xs : List X) (x : X) → list_all p (xs ++ x ∷ []) ≡ true → p x ≡ true
last_passes p [] x h = first_so (p x) true h
last_passes p (y ∷ xs) x h = last_passes p xs x (second_so (p y) (list_all p (xs ++ x ∷ [])) h)

fronts_pass : {X : Type 0} (p : X → Bool) (xs : List X) (x : X) → list_all p (xs ++ x ∷ []) ≡ true → list_all p xs ≡ true
fronts_pass p xs x h = first_so (list_all p xs) (list_all p (x ∷ [])) (sym (list_all-append p xs (x ∷ [])) ∙ h)

pub filter_all : {X : Type 0} (p : X → Bool) (xs : List X) → list_all p xs ≡ true → filter p xs ≡ xs
filter_all p [] h = refl
filter_all p (x ∷ xs) h =
    ap (λ b. cond b (x ∷ filter p xs) (filter p xs)) (first_so (p x) (list_all p xs) h) ∙ ap (λ l. x ∷ l) (filter_all p xs (second_so (p x) (list_all p xs) h))

pub filtered_pass : {X : Type 0} (p : X → Bool) (xs : List X) → list_all p (filter p xs) ≡ true
filtered_pass p [] = refl
filtered_pass p (x ∷ xs) = by (p x) refl (filtered_pass p xs)
  where
    by : (b : Bool) → p x ≡ b → list_all p (filter p xs) ≡ true → list_all p (cond b (x ∷ filter p xs) (filter p xs)) ≡ true
    by true e rest = both (p x) (list_all p (filter p xs)) e rest
    by false e rest = rest

still_pass : {X : Type 0} (p q : X → Bool) (xs : List X) → list_all q xs ≡ true → list_all q (filter p xs) ≡ true
still_pass p q [] h = refl
still_pass p q (x ∷ xs) h = by (p x) (still_pass p q xs (second_so (q x) (list_all q xs) h))
  where
    by : (b : Bool) → list_all q (filter p xs) ≡ true → list_all q (cond b (x ∷ filter p xs) (filter p xs)) ≡ true
    by true rest = both (q x) (list_all q (filter p xs)) (first_so (q x) (list_all q xs) h) rest
    by false rest = rest

pub all_weaker : {X : Type 0} (p q : X → Bool) → ((x : X) → p x ≡ true → q x ≡ true) → (xs : List X) → list_all p xs ≡ true → list_all q xs ≡ true
all_weaker p q f [] h = refl
all_weaker p q f (x ∷ xs) h = both (q x) (list_all q xs) (f x (first_so (p x) (list_all p xs) h)) (all_weaker p q f xs (second_so (p x) (list_all p xs) h))

-- ---- numbers

lt_self : (n : ℕ) → nat_lt n n ≡ false
lt_self n = grind (arith, nat_tests)

pub le_cmp : (a b : ℕ) → is_le (nat_cmp a b) ≡ nat_le a b
le_cmp a b = grind (arith, nat_tests)

lt_le : (a b c : ℕ) → nat_lt a b ≡ true → nat_le b c ≡ true → nat_le a c ≡ true
lt_le a b c h k = grind (arith, nat_tests)

lt_lt : (a b c : ℕ) → nat_lt a b ≡ true → nat_lt b c ≡ true → nat_lt a c ≡ true
lt_lt a b c h k = grind (arith, nat_tests)

same_number : (a b : ℕ) → (a == b) ≡ true → a ≡ b
same_number a b h = grind (arith, nat_tests)

not_before : (a b c : ℕ) → nat_lt a b ≡ false → nat_lt a c ≡ true → nat_lt c b ≡ false
not_before a b c h k = grind (arith, nat_tests)

other_before : (a v : ℕ) → nat_le a v ≡ true → (a == v) ≡ false → nat_lt a v ≡ true
other_before a v h k = grind (arith, nat_tests)

-- ---- writes

-- each write before the last one is of an earlier version
earlier : {T : Type 0} (f : History T) (e : ℕ × Option T) → ascends (f ++ e ∷ []) ≡ true → list_all (λ (g : ℕ × Option T). nat_lt g.0 e.0) f ≡ true
earlier [] e h = refl
earlier {T} (g ∷ f) e h =
    let later : ℕ × Option T → Bool = λ k. nat_lt g.0 k.0 in
    both (nat_lt g.0 e.0) (list_all (λ (k : ℕ × Option T). nat_lt k.0 e.0) f)
    (last_passes later f e (first_so (list_all later (f ++ e ∷ [])) (ascends (f ++ e ∷ [])) h))
    (earlier f e (second_so (list_all later (f ++ e ∷ [])) (ascends (f ++ e ∷ [])) h))

front_ascends : {T : Type 0} (f : History T) (e : ℕ × Option T) → ascends (f ++ e ∷ []) ≡ true → ascends f ≡ true
front_ascends [] e h = refl
front_ascends {T} (g ∷ f) e h =
    let later : ℕ × Option T → Bool = λ k. nat_lt g.0 k.0 in
    both (list_all later f) (ascends f)
    (fronts_pass later f e (first_so (list_all later (f ++ e ∷ [])) (ascends (f ++ e ∷ [])) h))
    (front_ascends f e (second_so (list_all later (f ++ e ∷ [])) (ascends (f ++ e ∷ [])) h))

-- the last write alone tells whether no later version was written
upto_last : {T : Type 0} (f : History T) (e : ℕ × Option T) (v : ℕ) → ascends (f ++ e ∷ []) ≡ true → nat_le e.0 v ≡ is_upto (f ++ e ∷ []) v
upto_last {T} f e v h = by (nat_le e.0 v) refl
  where
    within : ℕ × Option T → Bool
    within g = nat_le g.0 v

    by : (b : Bool) → nat_le e.0 v ≡ b → b ≡ list_all (λ (g : ℕ × Option T). nat_le g.0 v) (f ++ e ∷ [])
    by true k =
        sym (list_all-append (λ (g : ℕ × Option T). nat_le g.0 v) f (e ∷ [])
        ∙ both (list_all (λ (g : ℕ × Option T). nat_le g.0 v) f) (nat_le e.0 v && true)
        (all_weaker (λ (g : ℕ × Option T). nat_lt g.0 e.0) (λ (g : ℕ × Option T). nat_le g.0 v) (λ g l. lt_le g.0 e.0 v l k) f (earlier f e h))
        (both (nat_le e.0 v) true k refl))
    by false k =
        sym (list_all-append (λ (g : ℕ × Option T). nat_le g.0 v) f (e ∷ [])
        ∙ ap (λ b. list_all (λ (g : ℕ × Option T). nat_le g.0 v) f && (b && true)) k ∙ and-false (list_all (λ (g : ℕ × Option T). nat_le g.0 v) f))

-- what is before the last version, and before a later one
before_last : {T : Type 0} (f : History T) (e : ℕ × Option T) → ascends (f ++ e ∷ []) ≡ true → before (f ++ e ∷ []) e.0 ≡ f
before_last {T} f e h =
    let p : ℕ × Option T → Bool = λ g. nat_lt g.0 e.0 in
    filter-append p f (e ∷ []) ∙ ap (λ b. filter p f ++ cond b (e ∷ []) []) (lt_self e.0) ∙ append-nil (filter p f) ∙ filter_all p f (earlier f e h)

before_later : {T : Type 0} (f : History T) (e : ℕ × Option T) (v : ℕ) → ascends (f ++ e ∷ []) ≡ true → nat_lt e.0 v ≡ true → before (f ++ e ∷ []) v ≡ f ++ e ∷ []
before_later {T} f e v h k =
    let p : ℕ × Option T → Bool = λ g. nat_lt g.0 v in
    filter_all p (f ++ e ∷ []) (list_all-append p f (e ∷ [])
    ∙ both (list_all p f) (nat_lt e.0 v && true)
    (all_weaker (λ (g : ℕ × Option T). nat_lt g.0 e.0) p (λ g l. lt_lt g.0 e.0 v l k) f (earlier f e h))
    (both (nat_lt e.0 v) true k refl))

pub before_ascends : {T : Type 0} (es : History T) (v : ℕ) → ascends es ≡ true → ascends (before es v) ≡ true
before_ascends [] v h = refl
before_ascends {T} (e ∷ es) v h =
    let later : ℕ × Option T → Bool = λ g. nat_lt e.0 g.0 in
    by (nat_lt e.0 v) (still_pass (λ (g : ℕ × Option T). nat_lt g.0 v) later es (first_so (list_all later es) (ascends es) h)) (before_ascends es v (second_so (list_all later es) (ascends es) h))
  where
    by : (b : Bool) → list_all (λ (g : ℕ × Option T). nat_lt e.0 g.0) (before es v) ≡ true → ascends (before es v) ≡ true → ascends (cond b (e ∷ before es v) (before es v)) ≡ true
    by true apart rest = both (list_all (λ (g : ℕ × Option T). nat_lt e.0 g.0) (before es v)) (ascends (before es v)) apart rest
    by false apart rest = rest

push_ascends : {T : Type 0} (es : History T) (v : ℕ) (x : Option T) → ascends es ≡ true → list_all (λ (g : ℕ × Option T). nat_lt g.0 v) es ≡ true → ascends (es ++ (v, x) ∷ []) ≡ true
push_ascends [] v x h k = refl
push_ascends {T} (e ∷ es) v x h k =
    let later : ℕ × Option T → Bool = λ g. nat_lt e.0 g.0 in
    let sooner : ℕ × Option T → Bool = λ g. nat_lt g.0 v in
    both (list_all later (es ++ (v, x) ∷ [])) (ascends (es ++ (v, x) ∷ []))
    (list_all-append later es ((v, x) ∷ []) ∙ both (list_all later es) (nat_lt e.0 v && true) (first_so (list_all later es) (ascends es) h) (both (nat_lt e.0 v) true (first_so (sooner e) (list_all sooner es) k) refl))
    (push_ascends es v x (second_so (list_all later es) (ascends es) h) (second_so (sooner e) (list_all sooner es) k))

pub written_ascends : {T : Type 0} (es : History T) (v : ℕ) (x : Option T) → ascends es ≡ true → ascends (written es v x) ≡ true
written_ascends {T} es v x h = push_ascends (before es v) v x (before_ascends es v h) (filtered_pass (λ (g : ℕ × Option T). nat_lt g.0 v) es)

-- ---- by the last element of a list

-- whether a later version was written
pub tells_upto : {T : Type 0} (es : History T) (e : ℕ × Option T) (v : ℕ) → ascends es ≡ true → slice_get es (length es - 1) ≡ Some e → nat_le e.0 v ≡ is_upto es v
tells_upto {T} es e v h k =
    let P : History T → Type 0 = λ l. (ascends l ≡ true → nat_le e.0 v ≡ is_upto l v) in
    subst P (sym (last_split es e k)) (upto_last (take (length es - 1) es) e v) h

-- what is before the version of the last write
pub but_last : {T : Type 0} (es : History T) (e : ℕ × Option T) (v : ℕ) → ascends es ≡ true → slice_get es (length es - 1) ≡ Some e → (e.0 == v) ≡ true → before es v ≡ take (length es - 1) es
but_last {T} es e v h k here =
    let f : History T = take (length es - 1) es in
    let same : es ≡ f ++ e ∷ [] = last_split es e k in
    let up : ascends (f ++ e ∷ []) ≡ true = sym (ap ascends same) ∙ h in
    ap (before es) (sym (same_number e.0 v here)) ∙ ap (λ (l : History T). before l e.0) same ∙ before_last f e up

-- all is before a later one
pub all_before : {T : Type 0} (es : History T) (e : ℕ × Option T) (v : ℕ) → ascends es ≡ true → is_upto es v ≡ true → slice_get es (length es - 1) ≡ Some e → (e.0 == v) ≡ false → before es v ≡ es
all_before {T} es e v h u k other =
    let f : History T = take (length es - 1) es in
    let same : es ≡ f ++ e ∷ [] = last_split es e k in
    let up : ascends (f ++ e ∷ []) ≡ true = sym (ap ascends same) ∙ h in
    let within : nat_le e.0 v ≡ true = tells_upto es e v h k ∙ u in
    ap (λ (l : History T). before l v) same ∙ before_later f e v up (other_before e.0 v within other) ∙ sym same

-- whether some write is before a version
lt_cmp : (a b : ℕ) → is_lt (nat_cmp a b) ≡ nat_lt a b
lt_cmp a b = grind (arith, nat_tests)

none_before : {T : Type 0} (es : History T) (a v : ℕ) → nat_lt a v ≡ false → list_all (λ (g : ℕ × Option T). nat_lt a g.0) es ≡ true → before es v ≡ []
none_before [] a v h k = refl
none_before {T} (e ∷ es) a v h k =
    let later : ℕ × Option T → Bool = λ g. nat_lt a g.0 in
    ap (λ b. cond b (e ∷ before es v) (before es v)) (not_before a v e.0 h (first_so (later e) (list_all later es) k)) ∙ none_before es a v h (second_so (later e) (list_all later es) k)

pub tells_before : {T : Type 0} (es : History T) (e : ℕ × Option T) (v : ℕ) → ascends es ≡ true → slice_get es 0 ≡ Some e → is_lt (nat_cmp e.0 v) ≡ not (length (before es v) == 0)
tells_before [] e v h k = cc
tells_before {T} (x ∷ es) e v h k =
    let same : x ≡ e = cc in
    let later : ℕ × Option T → Bool = λ g. nat_lt x.0 g.0 in
    lt_cmp e.0 v ∙ ap (λ (y : ℕ × Option T). nat_lt y.0 v) (sym same) ∙ by (nat_lt x.0 v) (λ (f : nat_lt x.0 v ≡ false). none_before es x.0 v f (first_so (list_all later es) (ascends es) h)) refl
  where
    by : (b : Bool) → (nat_lt x.0 v ≡ false → before es v ≡ []) → nat_lt x.0 v ≡ b → b ≡ not (length (cond b (x ∷ before es v) (before es v)) == 0)
    by true none f = sym (ap not (nonempty (before es v)))
      where
        nonempty : (l : History T) → (length (x ∷ l) == 0) ≡ false
        nonempty l = grind (arith, nat_tests)
    by false none f = sym (ap (λ (l : History T). not (length l == 0)) (none f))

-- one of two values
pub either : {A E X : Type 0} (P : X → Type 0) (r : Result A E) (a b c : X) → OnOk r (a ≡ b) → OnErr r (a ≡ c) → P b → P c → P a
either P (Ok x) a b c ok err p q = subst P (sym ok) p
either P (Err e) a b c ok err p q = subst P (sym err) q

-- the last element written anew
pub set_last : {X : Type 0} (xs : List X) (x : X) → 1 ≤ length xs → set xs (length xs - 1) x ≡ take (length xs - 1) xs ++ x ∷ []
set_last [] x h = absurd (omega arith)
set_last {X} (y ∷ xs) x h = at (y ∷ xs) (length (y ∷ xs) - 1) (omega arith)
  where
    at : (l : List X) (n : ℕ) → length l ≡ suc n → set l n x ≡ take n l ++ x ∷ []
    at [] n len = absurd (omega arith)
    at (z ∷ []) zero len = refl
    at (z ∷ w ∷ l) zero len = absurd (omega arith)
    at (z ∷ l) (suc n) len = ap (λ k. z ∷ k) (at l n (omega arith))

-- a write in place of the newest one
pub rewritten : {T : Type 0} (es l : History T) (v : ℕ) (x : Option T) (n : ℕ) → l ≡ es → n ≡ length l → 1 ≤ length l → before l v ≡ take (length l - 1) l → set es (n - 1) (v, x) ≡ written es v x
rewritten {T} es l v x n same len one found =
    let P : History T → Type 0 = λ k. set k (n - 1) (v, x) ≡ written k v x in
    subst P same (ap (λ (m : ℕ). set l (m - 1) (v, x)) len ∙ set_last l (v, x) one ∙ ap (λ (k : History T). k ++ (v, x) ∷ []) (sym found))

-- a value that is taken away by a write
pub taken_away : {T : Type 0} (es : History T) (v : ℕ) → is_some (value_at es v) ≡ true → not (length (before es v) == 0) ≡ true → written es v None ≡ removed es v
taken_away {T} es v there some = by (is_some (value_at es v)) (length (before es v) == 0) there some
  where
    by : (b c : Bool) → b ≡ true → not c ≡ true → written es v None ≡ (if b then (if c then [] else written es v None) else es)
    by true true p q = cc
    by true false p q = refl
    by false c p q = cc

pub on_ok : {A E X : Type 0} (r : Result A E) (a b c : X) → OnOk r (a ≡ b) → b ≡ c → OnOk r (a ≡ c)
on_ok (Ok x) a b c h e = h ∙ e
on_ok (Err x) a b c h e = tt
