-- Serials and the steps that lead from one to another.
use Rattle.std.proofs.Common.{◌≡◌, ℕ, ◌+◌, ◌-◌, ◌*◌, ◌%◌, ◌^◌, ◌<◌, ◌≤◌, Bool, true, false, refl, sym, ap, ◌∙◌, ◌&&◌, ◌||◌, nat_lt, arith, lt-ltb, ltb-true, ◌⊎◌, inl, inr}
use Rattle.std.specs.Prelude.{IsTrue}
use Rattle.std.proofs.Math.Nat.{mod-eq_of_lt}
use Rattle.std.proofs.lemmas.Nat.{mod-mul-add}
use Rattle.std.proofs.lemmas.Bool.{and_parts, le-ltb, cases_lt}
use Rattle.dns_numbers.specs.Serial.{serial_lt, serial_add}

either : (x y : Bool) → (x || y) ≡ true → (x ≡ true) ⊎ (y ≡ true)
either true y h = inl refl
either false y h = inr h

near : (a b : ℕ) → (nat_lt a b && nat_lt (b - a) (2 ^ 31)) ≡ true → (a < b) × (b - a < 2 ^ 31)
near a b h = let parts = and_parts (nat_lt a b) (nat_lt (b - a) (2 ^ 31)) h in (ltb-true _ _ parts.0, ltb-true _ _ parts.1)

far : (a b : ℕ) → (nat_lt b a && nat_lt (2 ^ 31) (a - b)) ≡ true → (b < a) × (2 ^ 31 < a - b)
far a b h = let parts = and_parts (nat_lt b a) (nat_lt (2 ^ 31) (a - b)) h in (ltb-true _ _ parts.0, ltb-true _ _ parts.1)

-- a serial is before another in one of two ways
data Before (a b : ℕ) : Type 0 where
  straight : a < b → b - a < 2 ^ 31 → Before a b
  wrapped : b < a → 2 ^ 31 < a - b → Before a b

before : (a b : ℕ) → IsTrue (serial_lt a b) → Before a b
before a b h =
    elim (either (nat_lt a b && nat_lt (b - a) (2 ^ 31)) (nat_lt b a && nat_lt (2 ^ 31) (a - b)) h) [
      | inl n ↦ let r = near a b n in straight r.0 r.1
      | inr f ↦ let r = far a b f in wrapped r.0 r.1
    ]

is_straight : (a b : ℕ) → a < b → b - a < 2 ^ 31 → IsTrue (serial_lt a b)
is_straight a b lt short = rw (lt-ltb a b lt, lt-ltb _ _ short) refl

is_wrapped : (a b : ℕ) → b < a → 2 ^ 31 < a - b → IsTrue (serial_lt a b)
is_wrapped a b lt long = rw (le-ltb a b (omega (arith, lt)), lt-ltb b a lt, lt-ltb _ _ long) refl

-- ---- steps

pub steps_lead_on : (a n : ℕ) → a < 2 ^ 32 → 0 < n → n < 2 ^ 31 → IsTrue (serial_lt a (serial_add a n))
steps_lead_on a n ha some short =
    elim (cases_lt (a + n) (2 ^ 32)) [
      | inl fits ↦ rw (mod-eq_of_lt fits) (is_straight a (a + n) (omega (arith, some)) (omega (arith, short)))
      | inr over ↦
          let b = a + n - 2 ^ 32 in
          let whole : a + n ≡ 1 * 2 ^ 32 + b = omega (arith, over) in
          let wraps : (a + n) % 2 ^ 32 ≡ b = ap (λ x. x % 2 ^ 32) whole ∙ mod-mul-add 1 (2 ^ 32) b (omega (arith, ha, short)) in
          rw wraps (is_wrapped a b (omega (arith, ha, short, over)) (omega (arith, short, over)))
    ]

pub steps_between : (a b : ℕ) → a < 2 ^ 32 → b < 2 ^ 32 → IsTrue (serial_lt a b) → (n : ℕ) × (0 < n) × (n < 2 ^ 31) × (serial_add a n ≡ b)
steps_between a b ha hb h =
    elim (before a b h) [
      | straight lt short ↦
          let same : a + (b - a) ≡ b = omega (arith, lt) in
          (b - a, omega (arith, lt), short, ap (λ x. x % 2 ^ 32) same ∙ mod-eq_of_lt hb)
      | wrapped lt long ↦
          let n = b + 2 ^ 32 - a in
          let whole : a + n ≡ 1 * 2 ^ 32 + b = omega (arith, ha) in
          (n, omega (arith, ha), omega (arith, lt, long), ap (λ x. x % 2 ^ 32) whole ∙ mod-mul-add 1 (2 ^ 32) b hb)
    ]

pub one_way : (a b : ℕ) → IsTrue (serial_lt a b) → IsTrue (serial_lt b a) → ⊥
one_way a b h k =
    elim (before a b h) [
      | straight lt short ↦ elim (before b a k) [ straight gt _ ↦ omega (arith, lt, gt) | wrapped gt long ↦ omega (arith, gt, short, long) ]
      | wrapped lt long ↦ elim (before b a k) [ straight gt short ↦ omega (arith, gt, short, long) | wrapped gt _ ↦ omega (arith, lt, gt) ]
    ]
