use Rattle.std.proofs.Common.{◌≡◌, ◌+◌, ◌++◌, length}
use Rattle.dns_rdata.specs.Records.{record_wire}
use Rattle.zone_report.specs.Report.{reader_lines}
use Rattle.zone_report.proofs.reader_lines.append_readers.Given as goal

abbrev pub invariant-readers : goal.invariant-readers
invariant-readers l = record {
  count : l.number + length l.rest ≡ length l.readers;
  lines : l.out.items ++ reader_lines record_wire (l.number + 1) l.rest ≡ l.initial.out.items ++ reader_lines record_wire 1 l.readers;
}

abbrev pub decreases-readers : goal.decreases-readers
decreases-readers l = length l.rest
