use Rattle.std.specs.Prelude.{◌≡◌, map, length, string_bytes}
use Rattle.zone_asking.specs.Wishes.{limit_named}
use Rattle.zone_asking.proofs.words.limit_named.Given as goal

abbrev pub invariant-loop-rest : goal.invariant-loop-rest
invariant-loop-rest l =
    limit_named l.name l.bound l.usual (map string_bytes l.rest) ≡ limit_named l.name l.bound l.usual (map string_bytes l.words)

abbrev pub decreases-loop-rest : goal.decreases-loop-rest
decreases-loop-rest l = length l.rest
