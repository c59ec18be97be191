use Rattle.std.proofs.Common.{◌≡◌, drop}
use Rattle.paged_map.specs.Octets.{octets_cmp}
use Rattle.paged_map.proofs.marks.compare_octets.Given as goal

-- what is left compares as all does
abbrev pub invariant-loop-i : goal.invariant-loop-i
invariant-loop-i l = octets_cmp (drop l.i l.left) (drop l.i l.right) ≡ octets_cmp l.left l.right
