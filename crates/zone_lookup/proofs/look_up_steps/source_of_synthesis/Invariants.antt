use Rattle.std.proofs.Common.{◌≡◌, length, true, false}
use Rattle.dns_name.specs.Names.{under}
use Rattle.zone_model.specs.Version.{exists}
use Rattle.zone_model.specs.Answer.{closest_encloser}
use Rattle.zone_lookup.proofs.look_up_steps.source_of_synthesis.Given as goal

-- the names passed don't exist, and are in the zone
abbrev pub invariant-loop-parent : goal.invariant-loop-parent
invariant-loop-parent l = (closest_encloser l.version l.name ≡ closest_encloser l.version l.rest) × (under l.rest l.version.apex ≡ true) × (exists l.version l.rest ≡ false)

-- a label fewer each time
abbrev pub decreases-loop-parent : goal.decreases-loop-parent
decreases-loop-parent l = length l.rest
