use Rattle.std.proofs.Common.{◌≡◌, drop}
use Rattle.zone_generated.specs.Generated.{zone_name}
use Rattle.zone_generated.proofs.Opened.{with_hosts}
use Rattle.zone_generated.proofs.zone.put_hosts.Given as goal

-- With the hosts of the draws left it has them all, and the apex is the zone's.
abbrev pub invariant-loop-draw : goal.invariant-loop-draw
invariant-loop-draw l = (with_hosts l.count l.builder (drop l.draw-index l.drawn) ≡ with_hosts l.count l.initial.builder l.drawn) × (l.builder.apex ≡ zone_name)
