use Rattle.std.proofs.Common.{◌≤◌, ◌<◌, ◌-◌, length, take}
use Rattle.std.specs.List.{AllByRecursion}
use Rattle.zone_values.specs.TypedSets.{TypedSet}
use Rattle.zone_versions.proofs.types.count_below.Given as goal

-- all before the place are of types below the number
abbrev pub invariant-loop-count : goal.invariant-loop-count
invariant-loop-count l = record {
  bound : l.count ≤ length l.sets;
  below : AllByRecursion (λ (s : TypedSet). s.rtype < l.limit) (take l.count l.sets);
}

abbrev pub decreases-loop-count : goal.decreases-loop-count
decreases-loop-count l = length l.sets - l.count
