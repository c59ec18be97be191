use Rattle.std.proofs.Common.{◌≡◌, length}
use Rattle.xfr_server.proofs.Loops.{Kept}
use Rattle.xfr_server.proofs.transfer_message.push_text.Given as goal

abbrev pub invariant-records : goal.invariant-records
invariant-records l = record {
  zone : l.text.zone ≡ l.initial.text.zone;
  kept : Kept l.answer l.initial.answer l.text.records l.initial.text.records;
}

abbrev pub decreases-records : goal.decreases-records
decreases-records l = length l.text.records
