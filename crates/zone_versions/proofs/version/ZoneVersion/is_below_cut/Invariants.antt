use Rattle.std.proofs.Common.{◌≡◌, length}
use Rattle.std.specs.List.{list_any}
use Rattle.dns_name.specs.Names.{upwards}
use Rattle.zone_model.specs.Version.{is_cut}
use Rattle.zone_versions.proofs.version.ZoneVersion.is_below_cut.Given as goal

-- the names passed are no cuts
abbrev pub invariant-loop-rest : goal.invariant-loop-rest
invariant-loop-rest l = list_any (is_cut l.self) (upwards l.name) ≡ list_any (is_cut l.self) (upwards l.rest)

-- a label fewer each time
abbrev pub decreases-loop-rest : goal.decreases-loop-rest
decreases-loop-rest l = length l.rest
