use Rattle.std.proofs.Common.{sym, ap}
use Rattle.xfr_client.proofs.updater.ZoneUpdater.apply.Goals as goal

pub returns-clause-refused : goal.returns-clause-refused
returns-clause-refused g c before = rw (sym (ap (λ u. u.updater) c.self.view_is), sym (ap (λ u. u.session) c.self.view_is)) (c.apply.ensures.refused before)

pub returns-clause-exhausted : goal.returns-clause-exhausted
returns-clause-exhausted g c before = rw (sym (ap (λ u. u.updater) c.self.view_is), sym (ap (λ u. u.session) c.self.view_is)) (c.apply.ensures.exhausted before)
