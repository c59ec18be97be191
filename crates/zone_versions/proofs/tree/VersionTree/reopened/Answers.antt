use Rattle.zone_versions.proofs.ReopenedTrees.{reopened_tree}
use Rattle.zone_versions.proofs.tree.VersionTree.reopened.Goals as goal

-- A tree speaks of the apex by its name in lower case.
pub invariant_of-result : goal.invariant_of-result
invariant_of-result c = reopened_tree c.args.apex c.args.class c.args.self.now c.self.inside.apex c.self.inside.class c.self.inside.nodes c.in-Ok.nodes c.self.view_is c.requires c.self.invariant c.in-Ok.ensures.cases
