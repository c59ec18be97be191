use Rattle.std.proofs.Common.{◌≡◌, length}
use Rattle.zone_versions.specs.Ways.{highest_below, stays_without}
use Rattle.zone_versions.proofs.clearing.topmost.Given as goal

abbrev pub invariant-loop-parent : goal.invariant-loop-parent
invariant-loop-parent l = highest_below (stays_without l.nodes l.apex l.name) l.top ≡ highest_below (stays_without l.nodes l.apex l.name) l.name

abbrev pub decreases-loop-parent : goal.decreases-loop-parent
decreases-loop-parent l = length l.top
