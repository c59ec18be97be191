use Rattle.std.proofs.Common.{◌≡◌, List}
use Rattle.xfr_services.specs.Items.{Sending}
use Rattle.zone_serving.specs.StreamServing.{WrittenSoFar}
use Rattle.zone_serving.proofs.serving.write_replies.Given as goal

abbrev pub invariant-replies : goal.invariant-replies
invariant-replies g l =
    (g.K.Sink.faults l.sink ≡ g.K.Sink.faults l.initial.sink)
    × ((items : List Sending) → g.S.ReplyStream.LeftOf l.initial.replies items → WrittenSoFar items (g.S.ReplyStream.LeftOf l.replies) (g.K.Sink.taken l.initial.sink) (g.K.Sink.taken l.sink))

abbrev pub decreases-replies : goal.decreases-replies
decreases-replies g l = g.S.ReplyStream.remaining l.replies
