use Rattle.std.proofs.Common.{sym, ◌∙◌, subst}
use Rattle.zone_versions.specs.Trees.{IsTree}
use Rattle.zone_versions.specs.Ways.{put_node, version_of}
use Rattle.zone_versions.proofs.Named.{was_ok}
use Rattle.zone_versions.proofs.Told.{apex_tree}
use Rattle.zone_versions.proofs.tree.VersionTree.new.Goals as goal

pub invariant_of-result : goal.invariant_of-result
invariant_of-result c =
    subst (λ ns. IsTree (version_of c.in_ok-apex.apex c.args.class ns) ns)
    (sym (was_ok c.insert-done.result c.in_ok-done.field-0 c.in_ok-done.was c.insert-done.ensures.ok ∙ (λ i. put_node (c.new-nodes.ensures i) (c.put-key.ensures.value i) (c.empty-node.ensures.is i))))
    (apex_tree c.in_ok-apex.apex c.args.class)
