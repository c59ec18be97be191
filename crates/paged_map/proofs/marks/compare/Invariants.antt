use Rattle.std.proofs.Common.{◌≡◌, length}
use Rattle.paged_map.specs.Octets.{octets_cmp}
use Rattle.paged_map.proofs.marks.compare.Given as goal

-- what is left compares as all does
abbrev pub invariant-loop-one : goal.invariant-loop-one
invariant-loop-one l = octets_cmp l.ones l.others ≡ octets_cmp l.left l.right

abbrev pub decreases-loop-one : goal.decreases-loop-one
decreases-loop-one l = length l.ones
