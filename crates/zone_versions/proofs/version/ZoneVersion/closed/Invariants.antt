use Rattle.std.proofs.Common.{◌≡◌}
use Rattle.std.specs.Map.{keys_of}
use Rattle.zone_versions.proofs.Dropping.{dropped}
use Rattle.zone_versions.proofs.version.ZoneVersion.closed.Given as goal

-- Without the stray sets at the keys left, it is what is left without all of them.
abbrev pub invariant-loop-key : goal.invariant-loop-key
invariant-loop-key l = dropped l.self l.copy l.key-iterator ≡ dropped l.self l.self (keys_of l.self.sets)
