use Rattle.std.proofs.Common.{map, take}
use Rattle.dns_rdata.specs.ZoneData.{data_fields}
use Rattle.zone_values.specs.DataIndex.{Indexes}
use Rattle.zone_values.proofs.data_index.index_of.Given as goal

-- The keys so far are those of the data so far.
abbrev pub invariant-loop-item : goal.invariant-loop-item
invariant-loop-item l = Indexes (map data_fields (take l.item-index l.items)) l.keys
