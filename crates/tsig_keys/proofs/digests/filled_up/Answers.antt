use Rattle.std.proofs.Common.{◌≡◌, ◌++◌, ◌-◌, ℕ, List, length, drop, refl}
use Rattle.std.specs.Prelude.{replicate}
use Rattle.std.proofs.lemmas.List.{drop-replicate}
use Rattle.tsig_keys.proofs.digests.filled_up.Goals as goal

-- a copy at the front of a block of zeros
at_front : (xs ys : List ℕ) → ys ≡ xs → ys ++ drop (length xs) (replicate 128 0) ≡ xs ++ replicate (128 - length xs) 0
at_front xs ys same = rw (same, drop-replicate {X = ℕ} (length xs) 128 0) refl

pub returns : goal.returns
returns c = at_front _ _ c.copy_from_slice.ensures.after
