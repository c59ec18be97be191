-- A number after another isn't 0.
use Rattle.std.proofs.Common.{◌≡◌, ℕ, ◌==◌, suc, Bool, true, false, refl, eqb-true, arith}

pub suc_not : (n : ℕ) → (suc n == 0) ≡ false
suc_not n = by (suc n == 0) refl
  where
    by : (b : Bool) → (suc n == 0) ≡ b → b ≡ false
    by true h = let e : suc n ≡ 0 = eqb-true (suc n) 0 h in absurd (omega arith)
    by false h = refl
