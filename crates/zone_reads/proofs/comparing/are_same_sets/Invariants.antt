use Rattle.std.proofs.Common.{length, ◌≡◌}
use Rattle.std.specs.Cmp.Lexicographic.{pointwise}
use Rattle.zone_reads.specs.Stops.{same_told}
use Rattle.zone_reads.proofs.comparing.are_same_sets.Given as goal

abbrev pub invariant-loop-found : goal.invariant-loop-found
invariant-loop-found l = pointwise same_told l.initial.ones l.initial.others ≡ pointwise same_told l.ones l.others

abbrev pub decreases-loop-found : goal.decreases-loop-found
decreases-loop-found l = length l.ones
