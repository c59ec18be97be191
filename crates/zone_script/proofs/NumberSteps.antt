-- Numbers that are read digit by digit.
use Rattle.std.specs.Prelude.{◌≡◌, ℕ, ◌+◌, ◌*◌, ◌<◌, ◌≤◌, List, [], ◌∷◌, Some, None, Option, option_map, if◌then◌else◌, true, false, Bool, refl, length, drop, nat_lt}
use Rattle.std.proofs.Common.{suc, ap, sym, ◌∙◌, arith, get_or, drop-cons}
use Rattle.std.proofs.lemmas.Grind.{common_steps}
use Rattle.zone_script.specs.ScriptLines.{digit_of, more_digits, number_of, leads_with_zero}
use Rattle.zone_script.specs.Digits.{below, next_number}

more_digits-None : (xs : List ℕ) → more_digits None xs ≡ None
more_digits-None [] = refl
more_digits-None (x ∷ xs) = more_digits-None xs

past_digit : (bound k : ℕ) (xs : List ℕ) → ((d : ℕ) → below bound (more_digits (Some (k * 10 + d)) xs) ≡ None) → (d : Option ℕ)
    → below bound (more_digits (option_map (λ e. k * 10 + e) d) xs) ≡ None
past_digit bound k xs h None = ap (below bound) (more_digits-None xs)
past_digit bound k xs h (Some d) = h d

-- after a first octet that is no digit there is no number
pub no_number : (first : ℕ) (xs : List ℕ) → digit_of first ≡ None → number_of (first ∷ xs) ≡ None
no_number first xs e = if_either (leads_with_zero (first ∷ xs)) (ap (λ n. more_digits n xs) e ∙ more_digits-None xs)
  where
    if_either : (b : Bool) → more_digits (digit_of first) xs ≡ None → (if b then None else more_digits (digit_of first) xs) ≡ None
    if_either true h = refl
    if_either false h = h

-- past the bound no further digit helps
pub past_bound : (bound k : ℕ) (xs : List ℕ) → bound ≤ k → below bound (more_digits (Some k) xs) ≡ None
past_bound bound k [] h = grind (arith, common_steps)
past_bound bound k (x ∷ xs) h = past_digit bound k xs (λ d. past_bound bound (k * 10 + d) xs (omega arith)) (digit_of x)

-- at an octet that is no digit there is no number
pub no_digit : (bound k : ℕ) (xs : List ℕ) (i d : ℕ) → i < length xs → next_number k (get_or xs i d) ≡ None → below bound (more_digits (Some k) (drop i xs)) ≡ None
no_digit bound k xs i d h e = rw (drop-cons xs i d h) (ap (λ n. below bound (more_digits n (drop (suc i) xs))) e ∙ ap (below bound) (more_digits-None (drop (suc i) xs)))

-- a number below the bound, or at or past it
pub below_bound : (bound k : ℕ) → k < bound → below bound (Some k) ≡ Some k
below_bound bound k h = grind (arith, common_steps)

pub not_below : (bound k : ℕ) → bound ≤ k → below bound (Some k) ≡ None
not_below bound k h = past_bound bound k [] h

if_some : (b : Bool) (k m : ℕ) → (if b then Some k else None) ≡ Some m → Some k ≡ Some m
if_some true k m e = e
if_some false k m e = absurd (by e)
  where
    by : None ≡ Some m → ⊥
    by f = cc

-- what is below the bound is the number itself
was_below : (bound : ℕ) (n : Option ℕ) (m : ℕ) → below bound n ≡ Some m → n ≡ Some m
was_below bound None m e = e
was_below bound (Some k) m e = if_some (nat_lt k bound) k m e

-- a number that is none, or at or past the bound, stays so with further digits
none_stays : (bound : ℕ) (n : Option ℕ) (xs : List ℕ) → below bound n ≡ None → below bound (more_digits n xs) ≡ None
none_stays bound None xs e = ap (below bound) (more_digits-None xs)
none_stays bound (Some k) xs e = past_bound bound k xs (grind (arith, common_steps))

-- at an octet with which there is no number below the bound, there is none with those after it
pub stops : (bound k : ℕ) (xs : List ℕ) (i d : ℕ) → i < length xs → below bound (next_number k (get_or xs i d)) ≡ None → below bound (more_digits (Some k) (drop i xs)) ≡ None
stops bound k xs i d h e = rw (drop-cons xs i d h) (none_stays bound (next_number k (get_or xs i d)) (drop (suc i) xs) e)

-- at one with which there is one, the rest goes on from it
pub goes_on : (bound k : ℕ) (xs : List ℕ) (i d m : ℕ) → i < length xs → below bound (next_number k (get_or xs i d)) ≡ Some m
    → below bound (more_digits (Some m) (drop (suc i) xs)) ≡ below bound (more_digits (Some k) (drop i xs))
goes_on bound k xs i d m h e = rw (drop-cons xs i d h) (ap (λ n. below bound (more_digits n (drop (suc i) xs))) (sym (was_below bound (next_number k (get_or xs i d)) m e)))
