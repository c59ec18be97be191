use Rattle.std.proofs.Common.{sym, ap, subst, ◌∙◌}
use Rattle.zone_model.specs.Zones.{find_zone}
use Rattle.zone_tree.specs.Trees.{FindsNearest}
use Rattle.zone_tree.proofs.Nearest.{finds_nearest}
use Rattle.zone_tree.proofs.tree.ZoneTree.find_zone.Goals as goal

-- What is found name by name upwards is the nearest.
pub returns-clause-nearest : goal.returns-clause-nearest
returns-clause-nearest g c =
    let z = g.Z.AtApex in
    let zones = c.args.self.now in
    let name = g.N.Labelled.labels c.args.qname.now in
    subst (FindsNearest z.class_of z.apex_of zones c.args.class name) (sym (c.nearest.ensures.is ∙ ap (find_zone zones c.args.class) c.to_key_name.ensures.value))
    (finds_nearest z.class_of z.apex_of zones c.nearest.ensures.tree c.args.class name)
