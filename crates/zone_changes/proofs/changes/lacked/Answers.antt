use Rattle.std.proofs.Common.{◌≡◌, ◌++◌, ◌∷◌, [], ap, ◌∙◌, if◌then◌else◌}
use Rattle.std.specs.Option.{option_copied}
use Rattle.dns_rdata.specs.ZoneData.{data_fields}
use Rattle.zone_values.specs.TypedSets.{TypedSet, set_of}
use Rattle.zone_values.specs.TypedEntries.{untyped}
use Rattle.zone_changes.specs.Changes.{has_record}
use Rattle.zone_changes.proofs.Lacking.{lacked_more}
use Rattle.zone_changes.proofs.changes.lacked.Goals as goal

-- One more datum was looked at.
pub loop-item-preserved : goal.loop-item-preserved
loop-item-preserved c =
    let item = c.item-item.result in
    let other = untyped (option_copied c.args.other) in
    let ttl = c.args.set.now.contents.ttl in
    let had : c.has_record.result ≡ has_record other ttl (data_fields item) = c.has_record.ensures ∙ ap (λ n. has_record other n (data_fields item)) c.ttl-in-loop-item.ensures in
    c.in_ok-push_unless.ensures
    ∙ ap (λ (s : TypedSet). set_of s.rtype s.contents.ttl (if c.has_record.result then s.contents.items else s.contents.items ++ data_fields item ∷ [])) c.loop-item.invariant
    ∙ ap (set_of c.args.set.now.rtype ttl) (lacked_more other ttl data_fields c.data-item-items.result.now c.loop-item.item-index item c.has_record.result c.loop-item-test.true c.item-item.is had)
