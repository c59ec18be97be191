use Rattle.std.proofs.Common.{◌≡◌, All, not, map, filter, ap, sym, subst, ◌∙◌}
use Rattle.std.proofs.lemmas.List.Elements.{All-filter}
use Rattle.dns_rdata.specs.Records.{same_data}
use Rattle.dns_rdata.specs.ZoneData.{rtype_of, data_fields}
use Rattle.zone_values.specs.TypedSets.{TypedSet, set_of}
use Rattle.zone_values.specs.DataIndex.{IsIndexed}
use Rattle.zone_values.proofs.Equality.{filter_map}
use Rattle.zone_values.proofs.rrset.Rrset.remove.Goals as goal

-- The fields of what is left are what is left of the fields.
pub returns : goal.returns
returns c =
    ap (set_of c.self.inside.rtype c.args.ttl) (ap (map data_fields) c.drop_equal.ensures ∙ filter_map (λ d. not (same_data (data_fields c.args.item.now) d)) data_fields c.self.inside.items.items)
    ∙ ap (λ (s : TypedSet). set_of s.rtype c.args.ttl (filter (λ d. not (same_data (data_fields c.args.item.now) d)) s.contents.items)) c.self.view_is

-- The index has the keys of what is left, which is of the set's type.
pub invariant_of-self : goal.invariant_of-self
invariant_of-self c =
    let left = ap (map data_fields) c.drop_equal.ensures ∙ filter_map (λ d. not (same_data (data_fields c.args.item.now) d)) data_fields c.self.inside.items.items in (
      subst (λ l. IsIndexed l c.forget.new.seen) (sym left) (c.forget.ensures (map data_fields c.self.inside.items.items) c.self.invariant.0),
      subst (All (λ d. rtype_of d ≡ c.self.inside.rtype)) (sym c.drop_equal.ensures)
          (All-filter (λ kept. not (same_data (data_fields c.args.item.now) (data_fields kept))) (λ d. rtype_of d ≡ c.self.inside.rtype) c.self.inside.items.items c.self.invariant.1),
    )
