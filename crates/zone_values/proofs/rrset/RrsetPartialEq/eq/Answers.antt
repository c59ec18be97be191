use Rattle.std.proofs.Common.{map, ap, ◌∙◌}
use Rattle.dns_rdata.specs.ZoneData.{data_fields}
use Rattle.zone_values.specs.TypedSets.{set_of, same_typed_set}
use Rattle.zone_values.proofs.Sets.{same_by_data}
use Rattle.zone_values.proofs.rrset.RrsetPartialEq.eq.Goals as goal

pub returns : goal.returns
returns c =
    let s = c.self.inside in
    let t = c.other.inside in
    same_by_data s.rtype t.rtype s.ttl t.ttl s.items.items t.items.items c.eq.result c.if-ne.ensures c.if-ne-2.ensures c.self.invariant.1 c.other.invariant.1 c.eq.ensures
    ∙ ap (λ k. same_typed_set k (set_of t.rtype t.ttl (map data_fields t.items.items))) c.self.view_is
    ∙ ap (same_typed_set c.args.self.now) c.other.view_is
