-- TSIG data, piece by piece.
use Rattle.std.proofs.Common.{◌≡◌, ℕ, List, ◌++◌}
use Rattle.std.proofs.lemmas.List.{append_assoc}

pub tsig_written : (out n s f ml m i e ol o : List ℕ) → out ++ n ++ s ++ f ++ ml ++ m ++ i ++ e ++ ol ++ o ≡ out ++ (n ++ (s ++ f ++ ml ++ m ++ i ++ e ++ ol ++ o))
tsig_written out n s f ml m i e ol o = simp append_assoc
