use Rattle.std.proofs.Common.{◌≡◌, length}
use Rattle.xfr_server.specs.Transfers.{first_serial}
use Rattle.xfr_server.proofs.transfer.first_serial.Given as goal

abbrev pub invariant-records : goal.invariant-records
invariant-records l = record {
  message : l.records.message ≡ l.initial.records.message;
  rest : first_serial l.records.message l.records.left ≡ first_serial l.initial.records.message l.initial.records.left;
}

abbrev pub decreases-records : goal.decreases-records
decreases-records l = length l.records.left
