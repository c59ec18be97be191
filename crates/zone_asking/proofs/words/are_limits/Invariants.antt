use Rattle.std.specs.Prelude.{◌≡◌, map, length, string_bytes}
use Rattle.zone_asking.specs.Wishes.{are_limits}
use Rattle.zone_asking.proofs.words.are_limits.Given as goal

abbrev pub invariant-loop-rest : goal.invariant-loop-rest
invariant-loop-rest l = are_limits (map string_bytes l.rest) ≡ are_limits (map string_bytes l.words)

abbrev pub decreases-loop-rest : goal.decreases-loop-rest
decreases-loop-rest l = length l.rest
