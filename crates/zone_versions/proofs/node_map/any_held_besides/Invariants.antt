use Rattle.std.specs.Prelude.{option_map}
use Rattle.std.specs.Map.Iter.{deref_pair}
use Rattle.zone_versions.specs.Keyed.{left_from}
use Rattle.zone_versions.proofs.Scan.{Remains}
use Rattle.zone_versions.proofs.node_map.any_held_besides.Given as goal

abbrev pub invariant-loop-next : goal.invariant-loop-next
invariant-loop-next l = Remains l.name l.owner l.pages (option_map deref_pair l.next)

abbrev pub decreases-loop-next : goal.decreases-loop-next
decreases-loop-next l = left_from l.pages (option_map deref_pair l.next)
