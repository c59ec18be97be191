use Rattle.std.specs.Prelude.{◌≡◌, ℕ, List, Option, Result}
use Rattle.std.proofs.Common.{rules}
use Rattle.zone_model.specs.Commits.{Commit}
use Rattle.zone_reads.specs.Session.{Session}
use Rattle.xfr_outcomes.specs.declared.outcome.SyncOk.{SyncOk}
use Rattle.xfr_outcomes.specs.Modes.{mode_of}
use Rattle.xfr_client.specs.SoFar.{Asking, asks_with}
use Rattle.xfr_client.specs.Growing.{Grows}
use Rattle.zone_asking.specs.declared.limits.Limits.{Limits}
use Rattle.zone_asking.specs.declared.errors.AskError.{AskError}
use Rattle.zone_asking.specs.Exchanges.{Crossing, crossing, Exchanges}
use Rattle.zone_asking.proofs.Requests.{exchanges_at}
use Rattle.xfr_client.proofs.Growing.{grows_at}
use Rattle.zone_asking.proofs.asking.ask_passing_over.Goals as goal

pub returns-clause-exchanges : goal.returns-clause-exchanges
returns-clause-exchanges g c =
    let x = crossing (g.S.Source.remaining c.args.src.now) (g.S.Source.remaining c.exchange_and_lend.new.src) (g.K.Sink.taken c.args.sink.now) (g.K.Sink.taken c.exchange_and_lend.new.sink) in
    exchanges_at c.args.limits.now c.args.over (asks_with c.args.key.now (mode_of c.args.mode) c.args.at c.args.session.now.current) x c.args.made.now.items c.exchange_and_lend.new.made.items
    c.exchange_and_lend.result.now _ c.exchange_and_lend.new.told c.exchange_and_lend.ensures.exchanges (search rules)

-- the session that an exchange left, told otherwise, has the same history
history_at : (limits : Limits) (over : Option ℕ) (a : Asking) (x : Crossing) (before handles : List Commit) (r s t : Session) (answer : Result SyncOk AskError) → Exchanges limits over a x before handles t answer
    → Grows r.past s.past before handles → s ≡ t → Grows r.past t.past before handles
history_at limits over a x before handles r s t answer k g e = grows_at r.past s t before handles g e

pub returns-clause-history : goal.returns-clause-history
returns-clause-history g c =
    let x = crossing (g.S.Source.remaining c.args.src.now) (g.S.Source.remaining c.exchange_and_lend.new.src) (g.K.Sink.taken c.args.sink.now) (g.K.Sink.taken c.exchange_and_lend.new.sink) in
    history_at c.args.limits.now c.args.over (asks_with c.args.key.now (mode_of c.args.mode) c.args.at c.args.session.now.current) x c.args.made.now.items c.exchange_and_lend.new.made.items
    c.args.session.now c.exchange_and_lend.result.now _ _ (returns-clause-exchanges g c) c.exchange_and_lend.ensures.history (search rules)
