-- Items one after another, a step at a time.
use Rattle.std.proofs.Common.{◌≡◌, ℕ, zero, suc, ◌-◌, ◌<◌, ◌≤◌, List, [], ◌∷◌, length, Some, None, refl, ap, ◌∙◌, arith}
use Rattle.std.specs.Prelude.{Option, option_map}
use Rattle.dns_name.specs.Octets.{◌>>=◌}
use Rattle.dns_wire.specs.Parse.{items_at, after_items, readings, reading_then}

-- where the items end doesn't hang on the first of them
behind : {X : Type 0} (x : X) (rest : Option (List X × ℕ))
    → option_map {T = List X × ℕ} (λ r. r.1) (rest >>= (λ (others, p). Some (x ∷ others, p))) ≡ option_map {T = List X × ℕ} (λ r. r.1) rest
behind x None = refl
behind x (Some r) = refl

-- one less than a number that is one more
less : (n : ℕ) → n ≡ suc n - 1
less n = omega arith

pub after_items_zero : {X : Type 0} (item : ℕ → Option (X × ℕ)) (n p : ℕ) → n ≡ 0 → after_items item n p ≡ Some p
unfolding items_at
after_items_zero item n p e = rw e refl

pub after_items_more : {X : Type 0} (item : ℕ → Option (X × ℕ)) (n p : ℕ) (r : X × ℕ) → 0 < n → item p ≡ Some r
    → after_items item n p ≡ after_items item (n - 1) r.1
unfolding items_at
after_items_more item zero p r some e = absurd (omega arith)
after_items_more item (suc n) p r some e = rw e (behind r.0 (items_at item n r.1) ∙ ap (λ k. after_items item k r.1) (less n))

pub after_items_none : {X : Type 0} (item : ℕ → Option (X × ℕ)) (n p : ℕ) → 0 < n → item p ≡ None → after_items item n p ≡ None
unfolding items_at
after_items_none item zero p some e = absurd (omega arith)
after_items_none item (suc n) p some e = rw e refl

pub readings_zero : {X : Type 0} (item : ℕ → Option (X × ℕ)) (n p : ℕ) → n ≡ 0 → readings item n p ≡ []
unfolding readings
readings_zero item n p e = rw e refl

pub readings_more : {X : Type 0} (item : ℕ → Option (X × ℕ)) (n p : ℕ) (r : X × ℕ) → 0 < n → item p ≡ Some r
    → readings item n p ≡ Some r.0 ∷ readings item (n - 1) r.1
unfolding readings
readings_more item zero p r some e = absurd (omega arith)
readings_more item (suc n) p r some e = rw e (ap (λ k. Some r.0 ∷ readings item k r.1) (less n))

pub readings_none : {X : Type 0} (item : ℕ → Option (X × ℕ)) (n p : ℕ) → 0 < n → item p ≡ None → readings item n p ≡ None ∷ []
unfolding readings
readings_none item zero p some e = absurd (omega arith)
readings_none item (suc n) p some e = rw e refl

-- ---- how many readings

few_then : {X : Type 0} (rest : ℕ → List (Option X)) (n : ℕ) (r : Option (X × ℕ)) → ((p : ℕ) → length (rest p) ≤ n) → length (reading_then rest r) ≤ suc n
few_then rest n None few = omega arith
few_then rest n (Some r) few = omega (arith, few r.1)

-- the readings are no more than were counted
pub few_readings : {X : Type 0} (item : ℕ → Option (X × ℕ)) (n p : ℕ) → length (readings item n p) ≤ n
unfolding readings
few_readings item zero p = omega arith
few_readings item (suc n) p = few_then (readings item n) n (item p) (few_readings item n)
