-- The value at a version, after a write and without one.
use Rattle.std.proofs.Common.{◌≡◌, ℕ, ◌==◌, nat_le, nat_lt, Bool, true, false, ◌&&◌, cond, not, is_some, if◌then◌else◌, List, [], ◌∷◌, ◌++◌, length, reverse, refl, sym, ap, ◌∙◌, true≢false, Option, Some, None, arith}
use Rattle.std.specs.Option.{option_and_then}
use Rattle.std.specs.List.{list_all, filter, find, slice_get}
use Rattle.std.specs.Cmp.{first_so, second_so}
use Rattle.std.proofs.lemmas.Bool.Decides.{nat_tests}
use Rattle.std.proofs.lemmas.List.{append-nil, reverse-append}
use Rattle.std.proofs.lemmas.List.Elements.{filter-append}
use Rattle.std.proofs.lemmas.List.Folds.{list_all-append}
use Rattle.zone_histories.specs.Histories.{History, is_upto, value_at, before, written, removed}
use Rattle.zone_histories.proofs.Writes.{both, all_weaker, filter_all, filtered_pass, empty_list}

-- ---- lists turned

filter_turned : {X : Type 0} (p : X → Bool) (xs : List X) → reverse (filter p xs) ≡ filter p (reverse xs)
filter_turned p [] = refl
filter_turned {X} p (x ∷ xs) =
    by (p x) refl (filter_turned p xs) ∙ sym (filter-append p (reverse xs) (x ∷ [])) ∙ ap (filter p) (sym (reverse-append (x ∷ []) xs))
  where
    by : (b : Bool) → p x ≡ b → reverse (filter p xs) ≡ filter p (reverse xs) → reverse (cond b (x ∷ filter p xs) (filter p xs)) ≡ filter p (reverse xs) ++ cond (p x) (x ∷ []) []
    by true e rest = reverse-append (x ∷ []) (filter p xs) ∙ ap (λ l. l ++ x ∷ []) rest ∙ ap (λ b. filter p (reverse xs) ++ cond b (x ∷ []) []) (sym e)
    by false e rest = rest ∙ sym (append-nil (filter p (reverse xs))) ∙ ap (λ b. filter p (reverse xs) ++ cond b (x ∷ []) []) (sym e)

all_turned : {X : Type 0} (p : X → Bool) (xs : List X) → list_all p xs ≡ true → list_all p (reverse xs) ≡ true
all_turned p [] h = refl
all_turned p (x ∷ xs) h =
    ap (list_all p) (reverse-append (x ∷ []) xs) ∙ list_all-append p (reverse xs) (x ∷ [])
    ∙ both (list_all p (reverse xs)) (p x && true) (all_turned p xs (second_so (p x) (list_all p xs) h)) (both (p x) true (first_so (p x) (list_all p xs) h) refl)

find_filtered : {X : Type 0} (p q : X → Bool) → ((x : X) → q x ≡ true → p x ≡ true) → (xs : List X) → find q (filter p xs) ≡ find q xs
find_filtered p q f [] = refl
find_filtered {X} p q f (x ∷ xs) = by (p x) (q x) refl refl (f x) (find_filtered p q f xs)
  where
    by : (b c : Bool) → p x ≡ b → q x ≡ c → (q x ≡ true → p x ≡ true) → find q (filter p xs) ≡ find q xs → find q (cond b (x ∷ filter p xs) (filter p xs)) ≡ cond c (Some x) (find q xs)
    by true c d e g rest = ap (λ k. cond k (Some x) (find q (filter p xs))) e ∙ ap (cond c (Some x)) rest
    by false true d e g rest = absurd (true≢false (sym (g e) ∙ d))
    by false false d e g rest = rest

find_first : {X : Type 0} (p : X → Bool) (xs : List X) → list_all p xs ≡ true → find p xs ≡ slice_get xs 0
find_first p [] h = refl
find_first p (x ∷ xs) h = ap (λ b. cond b (Some x) (find p xs)) (first_so (p x) (list_all p xs) h)

-- ---- numbers

le_lt : (a w v : ℕ) → nat_lt w v ≡ true → nat_le a w ≡ true → nat_lt a v ≡ true
le_lt a w v h k = grind (arith, nat_tests)

le_le : (a v w : ℕ) → nat_lt w v ≡ false → nat_le a v ≡ true → nat_le a w ≡ true
le_le a v w h k = grind (arith, nat_tests)

not_le : (v w : ℕ) → nat_lt w v ≡ true → nat_le v w ≡ false
not_le v w h = grind (arith, nat_tests)

is_le : (v w : ℕ) → nat_lt w v ≡ false → nat_le v w ≡ true
is_le v w h = grind (arith, nat_tests)

zero_length : {X : Type 0} (xs : List X) → (length xs == 0) ≡ true → xs ≡ []
zero_length xs h = empty_list xs (grind (arith, nat_tests))

none_of : {T : Type 0} (o : Option T) → is_some o ≡ false → o ≡ None
none_of None h = refl
none_of (Some x) h = absurd (true≢false h)

-- ---- values

-- what was before a version stays without the writes from there on
pub kept_before : {T : Type 0} (h : History T) (v w : ℕ) → nat_lt w v ≡ true → value_at (before h v) w ≡ value_at h w
kept_before {T} h v w sooner =
    let p : ℕ × Option T → Bool = λ e. nat_lt e.0 v in
    let q : ℕ × Option T → Bool = λ e. nat_le e.0 w in
    ap (λ (o : Option (ℕ × Option T)). option_and_then (λ (e : ℕ × Option T). e.1) o) (ap (find q) (filter_turned p h) ∙ find_filtered p q (λ e k. le_lt e.0 w v sooner k) (reverse h))

-- the last write is that of its version and the later ones
pub written_value : {T : Type 0} (h : History T) (v w : ℕ) (x : Option T) → value_at (written h v x) w ≡ (if nat_lt w v then value_at h w else x)
written_value {T} h v w x = last ∙ by (nat_lt w v) refl
  where
    last : value_at (written h v x) w ≡ option_and_then (λ (e : ℕ × Option T). e.1) (cond (nat_le v w) (Some (v, x)) (find (λ (e : ℕ × Option T). nat_le e.0 w) (reverse (before h v))))
    last = ap (λ (l : History T). option_and_then (λ (e : ℕ × Option T). e.1) (find (λ (e : ℕ × Option T). nat_le e.0 w) l)) (reverse-append (before h v) ((v, x) ∷ []))

    by : (b : Bool) → nat_lt w v ≡ b → option_and_then (λ (e : ℕ × Option T). e.1) (cond (nat_le v w) (Some (v, x)) (find (λ (e : ℕ × Option T). nat_le e.0 w) (reverse (before h v)))) ≡ (if b then value_at h w else x)
    by true sooner = ap (λ c. option_and_then (λ (e : ℕ × Option T). e.1) (cond c (Some (v, x)) (find (λ (e : ℕ × Option T). nat_le e.0 w) (reverse (before h v))))) (not_le v w sooner) ∙ kept_before h v w sooner
    by false later = ap (λ c. option_and_then (λ (e : ℕ × Option T). e.1) (cond c (Some (v, x)) (find (λ (e : ℕ × Option T). nat_le e.0 w) (reverse (before h v))))) (is_le v w later)

-- no later write changes the value at the newest version
same_later : {T : Type 0} (h : History T) (v w : ℕ) → is_upto h v ≡ true → nat_lt w v ≡ false → value_at h w ≡ value_at h v
same_later {T} h v w upto later =
    let p : ℕ × Option T → Bool = λ e. nat_le e.0 w in
    let q : ℕ × Option T → Bool = λ e. nat_le e.0 v in
    let first : find p (reverse h) ≡ find q (reverse h) =
    find_first p (reverse h) (all_turned p h (all_weaker q p (λ e k. le_le e.0 v w later k) h upto)) ∙ sym (find_first q (reverse h) (all_turned q h upto)) in
    ap (λ (o : Option (ℕ × Option T)). option_and_then (λ (e : ℕ × Option T). e.1) o) first

-- a value that is taken away is none from that version on
pub removed_value : {T : Type 0} (h : History T) (v w : ℕ) → is_upto h v ≡ true → value_at (removed h v) w ≡ (if nat_lt w v then value_at h w else None)
removed_value {T} h v w upto = by (is_some (value_at h v)) (length (before h v) == 0) (nat_lt w v) refl refl refl
  where
    by : (b c d : Bool) → is_some (value_at h v) ≡ b → (length (before h v) == 0) ≡ c → nat_lt w v ≡ d → value_at (if b then (if c then [] else written h v None) else h) w ≡ (if d then value_at h w else None)
    by true true true p q r = sym (ap (λ (l : History T). value_at l w) (zero_length (before h v) q)) ∙ kept_before h v w r
    by true true false p q r = refl
    by true false d p q r = written_value h v w None ∙ ap (λ b. if b then value_at h w else None) r
    by false c true p q r = refl
    by false c false p q r = same_later h v w upto r ∙ none_of (value_at h v) p

-- the writes of a version are taken back
pub undone : {T : Type 0} (h : History T) (v : ℕ) (x : Option T) → before (written h v x) v ≡ before h v
undone {T} h v x =
    let p : ℕ × Option T → Bool = λ e. nat_lt e.0 v in
    let self : nat_lt v v ≡ false = grind (arith, nat_tests) in
    filter-append p (before h v) ((v, x) ∷ []) ∙ ap (λ b. filter p (before h v) ++ cond b ((v, x) ∷ []) []) self
    ∙ append-nil (filter p (before h v)) ∙ filter_all p (before h v) (filtered_pass p h)
