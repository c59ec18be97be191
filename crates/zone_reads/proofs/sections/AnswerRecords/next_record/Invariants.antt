use Rattle.std.proofs.Common.{◌≡◌, ◌++◌, length, map, flat_map}
use Rattle.dns_rdata.specs.ZoneData.{data_fields}
use Rattle.zone_model.specs.Answer.{addresses_of}
use Rattle.zone_reads.proofs.sections.AnswerRecords.next_record.Given as goal

-- what is left
abbrev pub invariant-records : goal.invariant-records
invariant-records l =
    (l.self-inside.first ++ l.self-inside.second) ++ flat_map (addresses_of l.self-inside.version.now) (map data_fields l.self-inside.servers.now) ≡ l.fn.self

-- a server fewer each time
abbrev pub decreases-records : goal.decreases-records
decreases-records l = length l.self-inside.servers.now
