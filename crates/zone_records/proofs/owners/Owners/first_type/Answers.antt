use Rattle.std.proofs.Common.{ap, ◌∙◌, option_map}
use Rattle.zone_model.specs.Version.{Sets}
use Rattle.zone_versions.specs.Held.{told}
use Rattle.zone_versions.proofs.Stops.{first_owner}
use Rattle.zone_records.specs.TypeSteps.{type_from}
use Rattle.zone_records.proofs.TypesIn.{found_type, no_type}
use Rattle.zone_records.proofs.owners.Owners.first_type.Goals as goal

-- The first set from the name on has the least type, where it is the owner's.
pub returns-in-Some : goal.returns-in-Some
returns-in-Some g c =
    let sets = c.self.inside.sets in
    let owner = g.N.Labelled.labels c.args.name.now in
    c.own_type.ensures ∙ found_type sets owner 0 _ c.self.invariant.ordered (c.in-Some.ensures ∙ ap (option_map told) (first_owner owner sets)) ∙ ap (λ (l : Sets). type_from l owner 0) c.self.view_is

pub returns-in-None : goal.returns-in-None
returns-in-None g c =
    let sets = c.self.inside.sets in
    let owner = g.N.Labelled.labels c.args.name.now in
    no_type sets owner 0 c.self.invariant.ordered (c.in-None.ensures ∙ ap (option_map told) (first_owner owner sets)) ∙ ap (λ (l : Sets). type_from l owner 0) c.self.view_is
