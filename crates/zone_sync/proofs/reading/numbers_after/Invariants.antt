use Rattle.std.proofs.Common.{◌≡◌, ◌≤◌, All, length}
use Rattle.zone_report.specs.ReportsWritten.{IsReader}
use Rattle.zone_sync.proofs.reading.numbers_after.Given as goal

abbrev pub invariant-loop-number : goal.invariant-loop-number
invariant-loop-number g l = record {
  held : l.before ≤ l.reader.last.number;
  counted : length l.lines.items ≡ l.number;
  each : All (IsReader l.receipt.last.number) l.lines.items;
}
