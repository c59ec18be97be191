use Rattle.std.proofs.Common.{◌≡◌, map, take}
use Rattle.dns_rdata.specs.ZoneData.{data_fields}
use Rattle.zone_model.specs.Edits.{distinct}
use Rattle.zone_values.specs.TypedSets.{set_of}
use Rattle.zone_values.proofs.rrset_edits.first_of_equal.Given as goal

-- The first of equal data of those so far.
abbrev pub invariant-loop-item : goal.invariant-loop-item
invariant-loop-item l = l.first ≡ set_of l.set.rtype l.set.contents.ttl (distinct (map data_fields (take l.item-index l.item-items)))
