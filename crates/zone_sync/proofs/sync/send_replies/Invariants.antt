use Rattle.std.proofs.Common.{◌≡◌, List}
use Rattle.xfr_server.specs.Items.{Sending}
use Rattle.zone_sync.specs.LinkTransfers.{SentSoFar}
use Rattle.zone_sync.proofs.sync.send_replies.Given as goal

abbrev pub invariant-replies : goal.invariant-replies
invariant-replies g l =
    (g.L.Link.faults l.link ≡ g.L.Link.faults l.initial.link)
    × ((items : List Sending) → g.S.ReplyStream.LeftOf l.initial.replies items → SentSoFar items (g.S.ReplyStream.LeftOf l.replies) (g.L.Link.lists l.initial.link) (g.L.Link.lists l.link))

abbrev pub decreases-replies : goal.decreases-replies
decreases-replies g l = g.S.ReplyStream.remaining l.replies
