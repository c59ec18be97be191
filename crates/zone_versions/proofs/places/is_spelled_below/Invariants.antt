use Rattle.std.proofs.Common.{◌≡◌, true, length}
use Rattle.dns_name.specs.Names.{under}
use Rattle.zone_versions.proofs.places.is_spelled_below.Given as goal

-- what the labels left are at or below, the name is too
abbrev pub invariant-loop-rest : goal.invariant-loop-rest
invariant-loop-rest l = under l.rest l.base ≡ true → under l.name l.base ≡ true

-- a label fewer each time
abbrev pub decreases-loop-rest : goal.decreases-loop-rest
decreases-loop-rest l = length l.rest
