use Rattle.std.proofs.Common.{sym, subst}
use Rattle.zone_versions.specs.Keyed.{named}
use Rattle.zone_versions.specs.Trees.{IsTree}
use Rattle.zone_versions.specs.Ways.{version_of}
use Rattle.zone_versions.proofs.tree.VersionTree.nodes.Goals as goal

pub returns-clause-tree : goal.returns-clause-tree
returns-clause-tree c =
    subst (λ v. IsTree v (named c.entries.result)) c.self.view_is
    (subst (λ ns. IsTree (version_of c.self.inside.apex c.self.inside.class c.self.inside.nodes) ns) (sym c.entries.ensures.is) c.self.invariant)
