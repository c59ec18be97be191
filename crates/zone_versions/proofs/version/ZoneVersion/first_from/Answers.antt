use Rattle.std.proofs.Common.{option_map, ap, ◌∙◌}
use Rattle.zone_model.specs.Version.{Version}
use Rattle.zone_versions.specs.Held.{told}
use Rattle.zone_versions.specs.Stops.{first_from}
use Rattle.zone_versions.proofs.Stops.{first_owner}
use Rattle.zone_versions.proofs.version.ZoneVersion.first_from.Goals as goal

-- An owner from the name on is one, whatever its type.
pub returns : goal.returns
returns g c =
    let name = g.N.Labelled.labels c.args.owner.now in
    c.first_from.ensures ∙ ap (option_map told) (first_owner name c.self.inside.tree.sets) ∙ ap (λ (v : Version). option_map told (first_from v name)) c.self.view_is
