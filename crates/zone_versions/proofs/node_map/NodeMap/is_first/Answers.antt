use Rattle.std.proofs.Common.{is_some, is_eq, sym, ap, ◌∙◌}
use Rattle.paged_map.specs.Octets.{octets_cmp}
use Rattle.zone_versions.specs.Trees.{node_at}
use Rattle.zone_versions.proofs.Named.{first_named}
use Rattle.zone_versions.proofs.node_map.NodeMap.is_first.Goals as goal

pub returns-in-Some : goal.returns-in-Some
returns-in-Some c =
    λ h.
    ap (λ m. is_some (node_at m c.args.name.now)) (sym c.self.view_is)
    ∙ first_named c.self.inside.pages c.args.name.now (c.in-Some.key.now, c.in-Some.field-0-1.now) c.next.new.self c.self.invariant.0 (sym c.iter-entries.ensures.entries ∙ c.in-Some.ensures.steps)
    (ap (λ k. is_eq (octets_cmp k c.in-Some.key.now)) (sym c.as_slice.ensures.value) ∙ sym c.is_same.ensures ∙ h)
