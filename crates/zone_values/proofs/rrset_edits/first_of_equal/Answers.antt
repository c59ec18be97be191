use Rattle.std.proofs.Common.{◌∙◌, sym, ap}
use Rattle.dns_rdata.specs.ZoneData.{data_fields}
use Rattle.zone_values.specs.TypedSets.{TypedSet, set_of}
use Rattle.zone_values.proofs.FirstData.{with_new, distinct_more}
use Rattle.zone_values.proofs.rrset_edits.first_of_equal.Goals as goal

-- One more datum.
pub loop-item-preserved : goal.loop-item-preserved
loop-item-preserved c =
    let items = c.data-item-items.result.now in
    let set = c.args.set.now in
    c.in_ok-push_new.ensures ∙ ap (λ (s : TypedSet). set_of s.rtype s.contents.ttl (with_new s.contents.items (data_fields c.item-item.result))) c.loop-item.invariant
    ∙ ap (set_of set.rtype set.contents.ttl) (sym (distinct_more data_fields items c.loop-item.item-index c.item-item.result c.loop-item-test.true c.item-item.is))
