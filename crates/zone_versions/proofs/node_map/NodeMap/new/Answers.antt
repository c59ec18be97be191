use Rattle.std.proofs.Common.{sym, subst}
use Rattle.paged_map.specs.Octets.{octets_cmp}
use Rattle.zone_model.proofs.Ordered.{sorted_none}
use Rattle.zone_versions.proofs.Named.{AreKept}
use Rattle.zone_versions.proofs.node_map.NodeMap.new.Goals as goal

pub invariant_of-result : goal.invariant_of-result
invariant_of-result c = subst AreKept (sym c.new.ensures) (tt, sorted_none octets_cmp)
