use Rattle.std.proofs.Common.{ap, ◌∙◌}
use Rattle.std.specs.BTreeMap.{is_at}
use Rattle.std.specs.Map.{lookup}
use Rattle.paged_map.specs.Octets.{octets_cmp}
use Rattle.zone_versions.specs.Trees.{node_at}
use Rattle.zone_versions.proofs.Named.{get_named}
use Rattle.zone_versions.proofs.node_map.NodeMap.get.Goals as goal

pub returns : goal.returns
returns c =
    c.get.ensures ∙ ap (λ k. lookup (is_at (octets_cmp k)) c.self.inside.pages) c.as_slice.ensures.value ∙ get_named c.self.inside.pages c.args.name.now c.self.invariant.0
    ∙ ap (λ m. node_at m c.args.name.now) c.self.view_is
