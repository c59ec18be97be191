use Rattle.std.proofs.Common.{◌≡◌, ◌++◌, map, length}
use Rattle.zone_versions.specs.Held.{told}
use Rattle.zone_versions.specs.Keyed.{named, AreKeys}
use Rattle.zone_versions.specs.Trees.{sets_of}
use Rattle.zone_versions.proofs.tree_walk.TreeSets.next_set.Given as goal

-- what is left
abbrev pub invariant-nodes : goal.invariant-nodes
invariant-nodes l = record {
  left : l.self-inside.node ++ map told (sets_of (named l.self-inside.nodes)) ≡ l.fn.self;
  keys : AreKeys l.self-inside.nodes;
}

-- a node fewer each time
abbrev pub decreases-nodes : goal.decreases-nodes
decreases-nodes l = length l.self-inside.nodes
