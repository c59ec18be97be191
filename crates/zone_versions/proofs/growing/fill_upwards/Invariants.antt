use Rattle.std.proofs.Common.{◌≡◌, ◌≤◌, ◌-◌, ◌^◌, length}
use Rattle.zone_versions.specs.Held.{counted}
use Rattle.zone_versions.specs.Ways.{add_upwards, lacking_upwards}
use Rattle.zone_versions.proofs.growing.fill_upwards.Given as goal

abbrev pub invariant-loop-rest : goal.invariant-loop-rest
invariant-loop-rest l = record {
  grown : add_upwards l.nodes l.rest ≡ add_upwards l.fn.nodes l.fn.name;
  counts : counted l.steps (lacking_upwards l.nodes l.rest) ≡ counted l.fn.steps (lacking_upwards l.fn.nodes l.fn.name);
  low : l.steps ≤ 2 ^ 64 - 1;
}

abbrev pub decreases-loop-rest : goal.decreases-loop-rest
decreases-loop-rest l = length l.rest
