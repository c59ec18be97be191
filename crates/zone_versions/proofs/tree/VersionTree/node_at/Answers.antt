use Rattle.std.proofs.Common.{ap, ◌∙◌}
use Rattle.zone_versions.specs.Trees.{node_of}
use Rattle.zone_versions.specs.Ways.{version_of}
use Rattle.zone_versions.proofs.Told.{node_told}
use Rattle.zone_versions.proofs.tree.VersionTree.node_at.Goals as goal

pub returns : goal.returns
returns c =
    c.get.ensures ∙ node_told (version_of c.self.inside.apex c.self.inside.class c.self.inside.nodes) c.self.inside.nodes c.args.name.now c.self.invariant ∙ ap (λ v. node_of v c.args.name.now) c.self.view_is
