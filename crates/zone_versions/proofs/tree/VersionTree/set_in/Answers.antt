use Rattle.std.proofs.Common.{sym, ap, ◌∙◌, None, Some, option_map, option_copied}
use Rattle.zone_model.specs.Version.{set_at}
use Rattle.zone_values.specs.TypedEntries.{typed}
use Rattle.zone_versions.specs.Ways.{version_of}
use Rattle.zone_versions.specs.Trees.{node_of}
use Rattle.zone_versions.proofs.Told.{set_of_node}
use Rattle.zone_versions.proofs.tree.VersionTree.set_in.Goals as goal

pub returns-in-Some : goal.returns-in-Some
returns-in-Some c =
    c.get.ensures
    ∙ ap (option_map (typed c.args.rtype))
    (set_of_node (version_of c.self.inside.apex c.self.inside.class c.self.inside.nodes) c.self.inside.nodes c.args.name.now (Some c.in-Some.node.now) c.args.rtype c.self.invariant
    (sym (ap option_copied c.in-Some.is) ∙ c.requires ∙ ap (λ v. node_of v c.args.name.now) (sym c.self.view_is))
    ∙ ap (λ v. set_at v c.args.name.now c.args.rtype) c.self.view_is)

pub returns-in-None : goal.returns-in-None
returns-in-None c =
    ap (option_map (typed c.args.rtype))
    (set_of_node (version_of c.self.inside.apex c.self.inside.class c.self.inside.nodes) c.self.inside.nodes c.args.name.now None c.args.rtype c.self.invariant
    (sym (ap option_copied c.in-None.is) ∙ c.requires ∙ ap (λ v. node_of v c.args.name.now) (sym c.self.view_is))
    ∙ ap (λ v. set_at v c.args.name.now c.args.rtype) c.self.view_is)
