use Rattle.std.proofs.Common.{ℕ, List, Option}
use Rattle.xfr_server.specs.Items.{Sending}
use Rattle.xfr_outcomes.specs.Modes.{mode_of}
use Rattle.xfr_client.specs.SoFar.{asks_with}
use Rattle.zone_sync.specs.Serving.{request_at}
use Rattle.xfr_client.proofs.Clients.{nothing_pending}
use Rattle.zone_sync.proofs.Exchanges.{rolled_says}
use Rattle.zone_sync.proofs.Delivery.{delivered}
use Rattle.xfr_client.proofs.Handles.{keeps_handles}
use Rattle.xfr_client.proofs.Growing.{grows_rolled}
use Rattle.zone_sync.proofs.sync.exchange_and_lend.Goals as goal

pub returns-clause-headline : goal.returns-clause-headline
returns-clause-headline g c =
    let sends : List ℕ → Option (List Sending) → Type 0 = λ m. g.P.Service.Sends c.args.primary.now (request_at m c.args.moments.at_primary) in
    let a = asks_with c.args.key.now (mode_of c.args.mode) c.args.moments.at_secondary c.args.session.now.current in
    let longest = g.L.Link.longest c.args.link.now in
    let old = g.L.Link.lists c.args.link.now in
    let new = g.L.Link.lists c.exchange.new.link in
    let before = c.args.made.now.items in
    let later = c.exchange.new.made.items in
    let answer = c.exchange.result in
    let says = rolled_says sends a longest old new before later c.into_session.result.now c.exchange.new.client.session answer c.into_session.ensures.session (rw (c.new-client.ensures.client, c.new-client.ensures.session) at c.exchange.ensures.says) in
    record {
      says = says;
      settled = nothing_pending c.into_session.result.now c.exchange.new.client.session c.into_session.ensures.session;
      delivers = λ v grant honest.
          delivered sends a c.args.moments.at_primary longest v old new (g.L.Link.faults c.args.link.now) (g.L.Link.faults c.exchange.new.link) before later c.into_session.result.now answer grant honest says c.exchange.ensures.failed;
    }

pub returns-clause-handles : goal.returns-clause-handles
returns-clause-handles g c =
    let says = rw (c.new-client.ensures.client, c.new-client.ensures.session) at c.exchange.ensures.says in
    keeps_handles c.args.session.now.current c.args.made.now.items c.exchange.new.made.items c.exchange.new.client.session says.transfers.versions says.transfers.made

pub returns-clause-long : goal.returns-clause-long
returns-clause-long g c = c.exchange.ensures.long

pub returns-clause-history : goal.returns-clause-history
returns-clause-history g c =
    grows_rolled c.args.session.now.past c.into_session.result.now c.exchange.new.client.session c.args.made.now.items c.exchange.new.made.items c.into_session.ensures.session
    (rw c.new-client.ensures.session at c.exchange.ensures.history)
