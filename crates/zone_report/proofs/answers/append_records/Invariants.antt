use Rattle.std.proofs.Common.{◌≡◌, ◌++◌, ◌∷◌, [], length}
use Rattle.std.specs.Prelude.{flat_map}
use Rattle.dns_rdata.specs.Records.{record_wire}
use Rattle.zone_report.specs.Lines.{record_line}
use Rattle.zone_report.proofs.answers.append_records.Given as goal

abbrev pub invariant-records : goal.invariant-records
invariant-records l = l.out.items ++ flat_map (record_line record_wire (l.word ∷ [])) l.records ≡ l.initial.out.items ++ flat_map (record_line record_wire (l.word ∷ [])) l.initial.records

abbrev pub decreases-records : goal.decreases-records
decreases-records l = length l.records
