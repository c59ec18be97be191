use Rattle.std.proofs.Common.{◌≡◌, map, take}
use Rattle.std.specs.Option.{option_copied}
use Rattle.dns_rdata.specs.ZoneData.{data_fields}
use Rattle.zone_values.specs.TypedSets.{set_of}
use Rattle.zone_values.specs.TypedEntries.{untyped}
use Rattle.zone_changes.proofs.Lacking.{lacked_items}
use Rattle.zone_changes.proofs.changes.lacked.Given as goal

-- What the other lacks of the data so far.
abbrev pub invariant-loop-item : goal.invariant-loop-item
invariant-loop-item l =
    l.left ≡ set_of l.set.rtype l.set.contents.ttl (lacked_items (untyped (option_copied l.fn.other)) l.set.contents.ttl (map data_fields (take l.item-index l.item-items)))
