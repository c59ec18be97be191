use Rattle.std.proofs.Common.{◌≤◌, List, length}
use Rattle.xfr_services.specs.Items.{Sending}
use Rattle.xfr_replies.specs.PulledStreams.{Continues, messages_left}
use Rattle.xfr_replies.proofs.transfer_replies.pull.Given as goal

abbrev pub invariant-records : goal.invariant-records
invariant-records l = record {
  item : (items : List Sending) → Continues l.initial.batcher l.initial.text.records items → Continues l.batcher l.text.records items;
  progress : messages_left l.batcher l.text.records ≤ messages_left l.initial.batcher l.initial.text.records;
}

abbrev pub decreases-records : goal.decreases-records
decreases-records l = length l.text.records
