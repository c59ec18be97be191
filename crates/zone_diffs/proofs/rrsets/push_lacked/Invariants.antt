use Rattle.std.proofs.Common.{◌≡◌, ◌++◌, map, not, filter, take}
use Rattle.std.specs.List.{list_any}
use Rattle.dns_rdata.specs.Records.{same_data}
use Rattle.dns_rdata.specs.ZoneData.{data_fields}
use Rattle.zone_values.specs.TypedSets.{set_of}
use Rattle.zone_diffs.proofs.rrsets.push_lacked.Given as goal

-- What the other lacks of the data so far stands after.
abbrev pub invariant-loop-item : goal.invariant-loop-item
invariant-loop-item l =
    l.into ≡ set_of l.initial.into.rtype l.initial.into.contents.ttl (l.initial.into.contents.items ++ filter (λ d. not (list_any (same_data d) l.other.contents.items)) (map data_fields (take l.item-index l.item-items)))
