use Rattle.std.proofs.Common.{◌≡◌, ◌==◌, ◌&&◌, drop, nat_eq}
use Rattle.std.specs.Cmp.Lexicographic.{pointwise}
use Rattle.tsig_keys.proofs.digests.differences.Given as goal

-- no difference so far, and none in what is left, is none in all
abbrev pub invariant-loop-i : goal.invariant-loop-i
invariant-loop-i l = ((l.joined == 0) && pointwise nat_eq (drop l.i l.octets) (drop l.i l.others)) ≡ pointwise nat_eq l.octets l.others
