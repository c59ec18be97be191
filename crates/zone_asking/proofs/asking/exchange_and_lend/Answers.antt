use Rattle.std.proofs.Common.{List, Option, ℕ}
use Rattle.xfr_outcomes.specs.Modes.{mode_of}
use Rattle.xfr_client.specs.SoFar.{asks_with}
use Rattle.xfr_client.proofs.Clients.{nothing_pending}
use Rattle.xfr_client.proofs.Handles.{keeps_handles}
use Rattle.zone_asking.specs.Exchanges.{crossing}
use Rattle.zone_asking.proofs.Requests.{rolled_exchanges}
use Rattle.xfr_client.proofs.Growing.{grows_rolled}
use Rattle.zone_asking.proofs.asking.exchange_and_lend.Goals as goal

pub returns-clause-exchanges : goal.returns-clause-exchanges
returns-clause-exchanges g c =
    let a = asks_with c.args.key.now (mode_of c.args.mode) c.args.at c.args.session.now.current in
    let x = crossing (g.S.Source.remaining c.args.src.now) (g.S.Source.remaining c.exchange.new.src) (g.K.Sink.taken c.args.sink.now) (g.K.Sink.taken c.exchange.new.sink) in
    rolled_exchanges c.args.limits.now c.args.over a x c.args.made.now.items c.exchange.new.made.items c.into_session.result.now c.exchange.new.client.session c.exchange.result c.into_session.ensures.session (rw (c.client_within-client.ensures.client, c.client_within-client.ensures.session) at c.exchange.ensures.exchanges)

pub returns-clause-settled : goal.returns-clause-settled
returns-clause-settled g c = nothing_pending c.into_session.result.now c.exchange.new.client.session c.into_session.ensures.session

pub returns-clause-handles : goal.returns-clause-handles
returns-clause-handles g c =
    let k = rw (c.client_within-client.ensures.client, c.client_within-client.ensures.session) at c.exchange.ensures.exchanges in
    keeps_handles c.args.session.now.current c.args.made.now.items c.exchange.new.made.items c.exchange.new.client.session k.transfers.versions k.transfers.made

pub returns-clause-history : goal.returns-clause-history
returns-clause-history g c =
    grows_rolled c.args.session.now.past c.into_session.result.now c.exchange.new.client.session c.args.made.now.items c.exchange.new.made.items c.into_session.ensures.session
    (rw c.client_within-client.ensures.session at c.exchange.ensures.history)
