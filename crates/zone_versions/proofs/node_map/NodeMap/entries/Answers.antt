use Rattle.std.proofs.Common.{sym, ap, ◌∙◌, subst}
use Rattle.zone_versions.specs.Keyed.{named, AreKeys}
use Rattle.zone_versions.proofs.node_map.NodeMap.entries.Goals as goal

pub returns-clause-is : goal.returns-clause-is
returns-clause-is c = ap named c.iter.ensures.entries ∙ c.self.view_is

pub returns-clause-keys : goal.returns-clause-keys
returns-clause-keys c = subst AreKeys (sym c.iter.ensures.entries) c.self.invariant.0
