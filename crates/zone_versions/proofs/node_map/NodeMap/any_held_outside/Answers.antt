use Rattle.std.proofs.Common.{ap, ◌∙◌}
use Rattle.std.specs.List.{list_any}
use Rattle.zone_versions.specs.Keyed.{holds_outside}
use Rattle.zone_versions.specs.Ways.{any_held, outside}
use Rattle.zone_versions.proofs.Cleared.{held_outside}
use Rattle.zone_versions.proofs.node_map.NodeMap.any_held_outside.Goals as goal

pub returns : goal.returns
returns c =
    c.any_held_outside.ensures ∙ (λ i. list_any (holds_outside (c.as_slice.ensures.value i) (c.as_slice-2.ensures.value i)) c.self.inside.pages)
    ∙ held_outside c.self.inside.pages c.args.name.now c.args.other.now c.self.invariant.0 ∙ ap (λ m. any_held (outside m c.args.other.now) c.args.name.now) c.self.view_is
