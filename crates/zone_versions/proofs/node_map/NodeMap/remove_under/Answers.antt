use Rattle.std.proofs.Common.{ℕ, List, not, filter, ap, ◌∙◌}
use Rattle.dns_name.specs.Names.{Name, under}
use Rattle.paged_map.specs.Octets.{begins_with}
use Rattle.zone_versions.specs.Trees.{NodeSets}
use Rattle.zone_versions.specs.Keyed.{named}
use Rattle.zone_versions.proofs.Named.{filter_named, keys_filter, on_ok, either_kept, sorted_filter}
use Rattle.zone_versions.proofs.node_map.NodeMap.remove_under.Goals as goal

pub invariant_of-self : goal.invariant_of-self
invariant_of-self c =
    either_kept c.remove_under.result c.remove_under.new.self (filter (λ (e : List ℕ × NodeSets). not (begins_with e.0 c.as_slice.result.now)) c.self.inside.pages) c.self.inside.pages c.remove_under.ensures.ok c.remove_under.ensures.err
    (keys_filter (λ e. not (begins_with e.0 c.as_slice.result.now)) c.self.inside.pages c.self.invariant.0, sorted_filter (λ k. not (begins_with k c.as_slice.result.now)) c.self.inside.pages c.self.invariant.1) c.self.invariant

pub returns-clause-ok : goal.returns-clause-ok
returns-clause-ok c =
    on_ok c.remove_under.result
    (λ e. ap named (e ∙ ap (λ k. filter (λ (x : List ℕ × NodeSets). not (begins_with x.0 k)) c.self.inside.pages) c.as_slice.ensures.value)
    ∙ filter_named c.self.inside.pages c.args.name.now c.self.invariant.0 ∙ ap (λ m. filter (λ (x : Name × NodeSets). not (under x.0 c.args.name.now)) m) c.self.view_is)
    c.remove_under.ensures.ok
