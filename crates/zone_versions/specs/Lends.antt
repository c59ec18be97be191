-- What nodes end as, where a `&mut` to one of them is lent out.
use Rattle.std.specs.Prelude.{◌≡◌, Result, Some}
use Rattle.std.specs.Borrow.{LendsSoOk, Fml, MutBor}
use Rattle.dns_name.specs.Names.{Name}
use Rattle.zone_versions.specs.Trees.{NodeSets, Nodes, node_at}
use Rattle.zone_versions.specs.Ways.{put_node}
use Rattle.zone_versions.specs.contracts.node.ZoneNode.{the_row as node_row}
use Rattle.zone_versions.specs.contracts.node_map.NodeMap.{the_row as nodes_row}

-- they have the last node written through r at a name, and at `Err` are as before; so too where that node is the one that was there
abbrev pub lends_node : MutBor Nodes → Name → {E : Type 0} → Result (MutBor NodeSets) E → Fml
lends_node s n r = LendsSoOk nodes_row node_row s r (λ m w. (m ≡ put_node s.now n w) × (node_at s.now n ≡ Some w → m ≡ s.now)) (λ m. m ≡ s.now)
