use Rattle.std.proofs.Common.{◌≡◌, ◌-◌, ◌≤◌, List, [], IsSome}
use Rattle.zone_model.specs.Commits.{Commit}
use Rattle.xfr_client.specs.SoFar.{Asking}
use Rattle.xfr_client.specs.Standing.{Stands}
use Rattle.xfr_client.specs.Growing.{Grows}
use Rattle.zone_asking.specs.Exchanges.{TakenSoFar}
use Rattle.zone_asking.proofs.asking.take_replies.Given as goal

abbrev pub invariant-taking : goal.invariant-taking
invariant-taking g l = record {
  faults : g.S.Source.faults l.src ≡ g.S.Source.faults l.initial.src;
  few : l.count ≤ 65536;
  under_way : IsSome l.client.client.exchange;
  most : l.client.client.most ≡ l.limits.set_records;
  lender : l.client.lender ≡ l.initial.client.lender;
  grown : Grows l.initial.client.session.past l.client.session.past l.initial.made.items l.made.items;
  taken : (a : Asking) (before : List Commit) → Stands l.initial.client.client l.initial.client.session a [] before l.initial.made.items
      → TakenSoFar l.limits l.over a (g.S.Source.remaining l.initial.src) (g.S.Source.remaining l.src) l.left l.client.client l.client.session before l.made.items l.count;
}

abbrev pub decreases-taking : goal.decreases-taking
decreases-taking g l = 65536 - l.count
