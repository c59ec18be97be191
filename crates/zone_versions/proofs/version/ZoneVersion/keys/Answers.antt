use Rattle.std.proofs.Common.{map, ap, ◌∙◌}
use Rattle.zone_versions.specs.Stops.{key_told}
use Rattle.zone_versions.proofs.Stops.{keys_told}
use Rattle.zone_versions.proofs.version.ZoneVersion.keys.Goals as goal

pub returns-clause-is : goal.returns-clause-is
returns-clause-is c = c.of.ensures ∙ ap (map key_told) c.sets.ensures.is ∙ keys_told c.args.self.now.sets
