use Rattle.std.proofs.Common.{◌≡◌, length}
use Rattle.zone_model.specs.Zones.{find_zone}
use Rattle.zone_tree.proofs.tree.ZoneTree.nearest.Given as goal

-- the names passed are no apexes
abbrev pub invariant-loop-parent : goal.invariant-loop-parent
invariant-loop-parent g l = find_zone l.self l.class l.name ≡ find_zone l.self l.class l.rest

-- a label fewer each time
abbrev pub decreases-loop-parent : goal.decreases-loop-parent
decreases-loop-parent g l = length l.rest
