use Rattle.std.proofs.Common.{◌≡◌, length}
use Rattle.std.specs.Ordering.{ordering_then}
use Rattle.dns_name.specs.Names.{spelling_cmp}
use Rattle.dns_name.proofs.compare.compare_equally_long.Given as goal

abbrev pub invariant-loop-x : goal.invariant-loop-x
invariant-loop-x l = (length l.left ≡ length l.right) × (ordering_then (spelling_cmp l.left l.right) l.last ≡ spelling_cmp l.a l.b)

abbrev pub decreases-loop-x : goal.decreases-loop-x
decreases-loop-x l = length l.left
