use Rattle.std.proofs.Common.{ℕ, List, filter, sym, ap, ◌∙◌, subst, is_le}
use Rattle.dns_name.specs.Names.{Name, canonical_cmp}
use Rattle.paged_map.specs.Octets.{octets_cmp}
use Rattle.zone_versions.specs.Trees.{NodeSets}
use Rattle.zone_versions.specs.Keyed.{named, AreKeys}
use Rattle.zone_versions.proofs.Named.{keys_filter, from_named}
use Rattle.zone_versions.proofs.node_map.NodeMap.entries_from.Goals as goal

pub returns-clause-is : goal.returns-clause-is
returns-clause-is c =
    ap named (c.iter_from.ensures ∙ ap (λ k. filter (λ (e : List ℕ × NodeSets). is_le (octets_cmp k e.0)) c.self.inside.pages) c.as_slice.ensures.value)
    ∙ from_named c.self.inside.pages c.args.name.now c.self.invariant.0 ∙ ap (λ m. filter (λ (e : Name × NodeSets). is_le (canonical_cmp c.args.name.now e.0)) m) c.self.view_is

pub returns-clause-keys : goal.returns-clause-keys
returns-clause-keys c = subst AreKeys (sym c.iter_from.ensures) (keys_filter (λ e. is_le (octets_cmp c.as_slice.result.now e.0)) c.self.inside.pages c.self.invariant.0)
