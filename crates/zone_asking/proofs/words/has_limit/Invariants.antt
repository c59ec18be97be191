use Rattle.std.specs.Prelude.{◌≡◌, map, length, string_bytes}
use Rattle.zone_asking.specs.Wishes.{has_limit}
use Rattle.zone_asking.proofs.words.has_limit.Given as goal

abbrev pub invariant-loop-rest : goal.invariant-loop-rest
invariant-loop-rest l = has_limit l.name (map string_bytes l.rest) ≡ has_limit l.name (map string_bytes l.words)

abbrev pub decreases-loop-rest : goal.decreases-loop-rest
decreases-loop-rest l = length l.rest
