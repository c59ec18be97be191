use Rattle.std.proofs.Common.{◌++◌, map, sym, ap, ◌∙◌, subst}
use Rattle.name_keys.specs.NameKeys.{name_of_key}
use Rattle.zone_versions.specs.Held.{told}
use Rattle.zone_versions.specs.Keyed.{Keyed, named, AreKeys}
use Rattle.zone_versions.specs.Trees.{sets_of}
use Rattle.zone_versions.proofs.Walked.{next_node}
use Rattle.zone_versions.proofs.tree_walk.TreeSets.next_set.Goals as goal

pub of-self-inside-requires : goal.of-self-inside-requires
of-self-inside-requires c = (subst AreKeys c.in-Some-next.ensures.steps c.nodes.invariant.keys).0

pub nodes-preserved : goal.nodes-preserved
nodes-preserved c = record {
  left =
      ap (λ l. l ++ map told (sets_of (named c.next.new.self))) c.of-self-inside.ensures ∙ next_node (name_of_key c.in-Some-next.key.now) c.in-Some-next.node.now (named c.next.new.self)
      ∙ ap (λ (es : Keyed). map told (sets_of (named es))) (sym c.in-Some-next.ensures.steps)
      ∙ ap (λ l. l ++ map told (sets_of (named c.nodes.self-inside.nodes))) (sym c.in_default.ensures.0) ∙ c.nodes.invariant.left;
  keys = (subst AreKeys c.in-Some-next.ensures.steps c.nodes.invariant.keys).1;
}
