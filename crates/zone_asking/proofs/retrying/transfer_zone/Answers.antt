use Rattle.std.proofs.Common.{refl, sym, ◌∙◌, subst, Some}
use Rattle.zone_model.specs.TransferText.{Axfr}
use Rattle.zone_devices.specs.Calls.{Rose}
use Rattle.xfr_outcomes.specs.Modes.{mode_of}
use Rattle.xfr_client.specs.SoFar.{asks_with}
use Rattle.zone_asking.specs.Exchanges.{crossing}
use Rattle.zone_asking.proofs.TwoExchanges.{twice, keeps_both, no_source_fault, no_sink_fault}
use Rattle.xfr_client.proofs.Growing.{grows_on}
use Rattle.zone_asking.proofs.retrying.transfer_zone.Goals as goal

pub returns-then-asks_again-clause-exchanges : goal.returns-then-asks_again-clause-exchanges
returns-then-asks_again-clause-exchanges g c =
    let a = asks_with c.args.key.now (mode_of c.args.mode) c.args.at c.args.session.now.current in
    let again = sym c.asks_again.ensures ∙ c.if-asks_again.true in
    let two = rw (c.next_moment-next.ensures, c.id_at.ensures) at c.ask_passing_over.ensures.exchanges in
    twice c.args.limits.now a (g.S.Source.remaining c.args.src.now) (g.S.Source.remaining c.ask_zone-first.new.src) (g.S.Source.remaining c.ask_passing_over.new.src) (g.K.Sink.taken c.args.sink.now) (g.K.Sink.taken c.ask_zone-first.new.sink) (g.K.Sink.taken c.ask_passing_over.new.sink)
    c.args.made.now.items c.ask_zone-first.new.made.items c.ask_passing_over.new.made.items c.ask_zone-first.new.session c.ask_passing_over.new.session c.ask_zone-first.result c.ask_passing_over.result c.ask_zone-first.ensures.exchanges again c.ask_zone-first.ensures.settled two

pub returns-then-asks_again-clause-handles : goal.returns-then-asks_again-clause-handles
returns-then-asks_again-clause-handles g c =
    let base = c.args.session.now.current in
    let next = c.ask_zone-first.new.session.current in
    let a = asks_with c.args.key.now (mode_of c.args.mode) c.args.at base in
    let b = asks_with c.args.key.now Axfr c.next_moment-next.result next in
    let x = crossing (g.S.Source.remaining c.args.src.now) (g.S.Source.remaining c.ask_zone-first.new.src) (g.K.Sink.taken c.args.sink.now) (g.K.Sink.taken c.ask_zone-first.new.sink) in
    let y = crossing (g.S.Source.remaining c.ask_zone-first.new.src) (g.S.Source.remaining c.ask_passing_over.new.src) (g.K.Sink.taken c.ask_zone-first.new.sink) (g.K.Sink.taken c.ask_passing_over.new.sink) in
    keeps_both c.args.limits.now (Some c.id_at.result) a b x y c.args.made.now.items c.ask_zone-first.new.made.items c.ask_passing_over.new.made.items c.ask_zone-first.new.session c.ask_passing_over.new.session c.ask_zone-first.result c.ask_passing_over.result refl c.ask_zone-first.ensures.exchanges c.ask_passing_over.ensures.exchanges

pub returns-then-asks_again-clause-source_failed : goal.returns-then-asks_again-clause-source_failed
returns-then-asks_again-clause-source_failed g c h =
    let again = sym c.asks_again.ensures ∙ c.if-asks_again.true in
    subst (λ n. Rose n (g.S.Source.faults c.ask_passing_over.new.src)) (c.ask_zone-first.ensures.source_steady (no_source_fault (mode_of c.args.mode) c.ask_zone-first.result again)) (c.ask_passing_over.ensures.source_failed h)

pub returns-then-asks_again-clause-source_steady : goal.returns-then-asks_again-clause-source_steady
returns-then-asks_again-clause-source_steady g c h =
    let again = sym c.asks_again.ensures ∙ c.if-asks_again.true in
    c.ask_passing_over.ensures.source_steady h ∙ c.ask_zone-first.ensures.source_steady (no_source_fault (mode_of c.args.mode) c.ask_zone-first.result again)

pub returns-then-asks_again-clause-sink_failed : goal.returns-then-asks_again-clause-sink_failed
returns-then-asks_again-clause-sink_failed g c h =
    let again = sym c.asks_again.ensures ∙ c.if-asks_again.true in
    subst (λ n. Rose n (g.K.Sink.faults c.ask_passing_over.new.sink)) (c.ask_zone-first.ensures.sink_steady (no_sink_fault (mode_of c.args.mode) c.ask_zone-first.result again)) (c.ask_passing_over.ensures.sink_failed h)

pub returns-then-asks_again-clause-sink_steady : goal.returns-then-asks_again-clause-sink_steady
returns-then-asks_again-clause-sink_steady g c h =
    let again = sym c.asks_again.ensures ∙ c.if-asks_again.true in
    c.ask_passing_over.ensures.sink_steady h ∙ c.ask_zone-first.ensures.sink_steady (no_sink_fault (mode_of c.args.mode) c.ask_zone-first.result again)

pub returns-then-asks_again-clause-history : goal.returns-then-asks_again-clause-history
returns-then-asks_again-clause-history g c =
    grows_on c.args.session.now.past c.ask_zone-first.new.session.past c.ask_passing_over.new.session.past c.args.made.now.items c.ask_zone-first.new.made.items c.ask_passing_over.new.made.items c.ask_zone-first.ensures.history c.ask_passing_over.ensures.history
