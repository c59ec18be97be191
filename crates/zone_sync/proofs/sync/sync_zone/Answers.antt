use Rattle.std.specs.Prelude.{◌≡◌, ℕ, List, Option, Result}
use Rattle.std.proofs.Common.{rules}
use Rattle.zone_devices.specs.Links.{LinkLists}
use Rattle.zone_model.specs.Commits.{Commit}
use Rattle.zone_reads.specs.Session.{Session}
use Rattle.xfr_outcomes.specs.declared.outcome.SyncOk.{SyncOk}
use Rattle.xfr_outcomes.specs.declared.outcome.SyncError.{SyncError}
use Rattle.xfr_outcomes.specs.Modes.{mode_of}
use Rattle.xfr_server.specs.Items.{Sending}
use Rattle.xfr_client.specs.SoFar.{Asking, asks_with}
use Rattle.xfr_client.specs.Growing.{Grows}
use Rattle.zone_sync.specs.Serving.{request_at}
use Rattle.zone_sync.specs.Delivery.{Synchronizes}
use Rattle.zone_sync.proofs.Delivery.{synchronizes_at}
use Rattle.xfr_client.proofs.Growing.{grows_at}
use Rattle.zone_sync.proofs.sync.sync_zone.Goals as goal

pub returns-clause-headline : goal.returns-clause-headline
returns-clause-headline g c =
    synchronizes_at (λ m. g.P.Service.Sends c.args.primary.now (request_at m c.args.moments.at_primary)) (asks_with c.args.key.now (mode_of c.args.mode) c.args.moments.at_secondary c.args.session.now.current) c.args.moments.at_primary
    (g.L.Link.longest c.args.link.now) (g.L.Link.lists c.args.link.now) (g.L.Link.lists c.exchange_and_lend.new.link) (g.L.Link.faults c.args.link.now) (g.L.Link.faults c.exchange_and_lend.new.link) c.args.made.now.items c.exchange_and_lend.new.made.items
    c.exchange_and_lend.result.now _ c.exchange_and_lend.new.told c.exchange_and_lend.ensures.headline (search rules)

pub returns-clause-long : goal.returns-clause-long
returns-clause-long g c = c.exchange_and_lend.ensures.long

-- the session that an exchange left, told otherwise, has the same history
history_at : (Sends : List ℕ → Option (List Sending) → Type 0) (a : Asking) (at longest : ℕ) (old new : Option LinkLists) (f g : ℕ) (before handles : List Commit) (r s t : Session) (answer : Result SyncOk SyncError)
    → Synchronizes Sends a at longest old new f g before handles t answer → Grows r.past s.past before handles → s ≡ t → Grows r.past t.past before handles
history_at Sends a at longest old new f g before handles r s t answer k grown e = grows_at r.past s t before handles grown e

pub returns-clause-history : goal.returns-clause-history
returns-clause-history g c =
    history_at (λ m. g.P.Service.Sends c.args.primary.now (request_at m c.args.moments.at_primary)) (asks_with c.args.key.now (mode_of c.args.mode) c.args.moments.at_secondary c.args.session.now.current) c.args.moments.at_primary
    (g.L.Link.longest c.args.link.now) (g.L.Link.lists c.args.link.now) (g.L.Link.lists c.exchange_and_lend.new.link) (g.L.Link.faults c.args.link.now) (g.L.Link.faults c.exchange_and_lend.new.link) c.args.made.now.items c.exchange_and_lend.new.made.items
    c.args.session.now c.exchange_and_lend.result.now _ _ (returns-clause-headline g c) c.exchange_and_lend.ensures.history (search rules)
