use Rattle.std.proofs.Common.{sym, ap}
use Rattle.xfr_client.proofs.client.XfrClient.take.Goals as goal

pub returns-clause-asks : goal.returns-clause-asks
returns-clause-asks g c base = rw (sym (ap (λ x. x.client) c.self.view_is)) (c.take.ensures.asks base)

pub returns-clause-still : goal.returns-clause-still
returns-clause-still g c base taken before none = rw (sym (ap (λ x. x.client) c.self.view_is), sym (ap (λ x. x.session) c.self.view_is)) (c.take.ensures.still base taken before none)
