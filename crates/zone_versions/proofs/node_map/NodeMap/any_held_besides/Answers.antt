use Rattle.std.proofs.Common.{[], sym, ap, ◌∙◌}
use Rattle.std.specs.List.{list_any}
use Rattle.zone_versions.specs.Keyed.{holds_besides}
use Rattle.zone_versions.specs.Ways.{put_node, any_held}
use Rattle.zone_versions.proofs.Named.{held_besides}
use Rattle.zone_versions.proofs.node_map.NodeMap.any_held_besides.Goals as goal

pub returns : goal.returns
returns c =
    c.any_held_besides.ensures ∙ (λ i. list_any (holds_besides (c.as_slice.ensures.value i) (c.as_slice-2.ensures.value i)) c.self.inside.pages)
    ∙ sym (held_besides c.self.inside.pages c.args.name.now c.args.owner.now c.as_slice-2.ensures.folded c.as_slice-2.ensures.name c.self.invariant.0 c.self.invariant.1)
    ∙ ap (λ m. any_held (put_node m c.args.owner.now []) c.args.name.now) c.self.view_is
