use Rattle.zone_model.proofs.Pushed.{offer_has_history, offer_publishes, offer_starts}
use Rattle.zone_model.proofs.offer_laws.offer_has_history.Goals as goal

pub returns-clause-history : goal.returns-clause-history
returns-clause-history c = offer_has_history

pub returns-clause-published : goal.returns-clause-published
returns-clause-published c = offer_publishes

pub returns-clause-starts : goal.returns-clause-starts
returns-clause-starts c = offer_starts
