use Rattle.std.proofs.Common.{◌≡◌, length}
use Rattle.zone_versions.specs.Ways.{climb}
use Rattle.zone_versions.proofs.shrinking.topmost.Given as goal

abbrev pub invariant-loop-parent : goal.invariant-loop-parent
invariant-loop-parent l = climb l.nodes l.apex l.owner l.top ≡ climb l.nodes l.apex l.owner l.owner

abbrev pub decreases-loop-parent : goal.decreases-loop-parent
decreases-loop-parent l = length l.top
