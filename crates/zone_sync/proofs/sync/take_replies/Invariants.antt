use Rattle.std.proofs.Common.{◌≡◌, ◌-◌, ◌≤◌, List, [], IsSome}
use Rattle.zone_model.specs.Commits.{Commit}
use Rattle.xfr_client.specs.SoFar.{Asking}
use Rattle.xfr_client.specs.Standing.{Stands}
use Rattle.xfr_client.specs.Growing.{Grows}
use Rattle.zone_sync.specs.LinkTransfers.{TakenSoFar}
use Rattle.zone_sync.proofs.sync.take_replies.Given as goal

abbrev pub invariant-taking : goal.invariant-taking
invariant-taking g l =
    (g.L.Link.faults l.link ≡ g.L.Link.faults l.initial.link)
    × (l.count ≤ 65536)
    × IsSome l.client.client.exchange
    × ((a : Asking) (before : List Commit) → Stands l.initial.client.client l.initial.client.session a [] before l.initial.made.items → TakenSoFar a (g.L.Link.lists l.initial.link) (g.L.Link.lists l.link) l.client.client l.client.session before l.made.items l.count)
    × (l.client.lender ≡ l.initial.client.lender)
    × Grows l.initial.client.session.past l.client.session.past l.initial.made.items l.made.items

abbrev pub decreases-taking : goal.decreases-taking
decreases-taking g l = 65536 - l.count
