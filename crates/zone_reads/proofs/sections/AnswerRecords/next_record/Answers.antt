use Rattle.std.proofs.Common.{ap}
use Rattle.std.specs.Prelude.{map}
use Rattle.dns_rdata.specs.ZoneData.{data_fields}
use Rattle.zone_model.specs.Answer.{addresses_of}
use Rattle.zone_reads.proofs.JoinedRecords.{loaded}
use Rattle.zone_reads.proofs.sections.AnswerRecords.next_record.Goals as goal

-- Both sets are spent: those of the next server take their places.
pub records-preserved : goal.records-preserved
records-preserved c =
    let old = c.records.self-inside in
    loaded (addresses_of old.version.now) old.first old.second c.addresses_by_type-first.result.0 c.addresses_by_type-first.result.1 _
    (data_fields c.in-Some-split_first.server.now) (map data_fields old.servers.now) (map data_fields c.in-Some-split_first.behind.now)
    c.in_default.ensures.0 c.in_default-next_record.ensures.0 (ap (map data_fields) c.in-Some-split_first.ensures.cases.0)
    c.addresses_by_type-first.ensures c.records.invariant
