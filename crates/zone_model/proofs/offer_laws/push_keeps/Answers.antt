use Rattle.zone_model.proofs.Pushed.{push_keeps, push_publishes}
use Rattle.zone_model.proofs.offer_laws.push_keeps.Goals as goal

pub returns-clause-history : goal.returns-clause-history
returns-clause-history c = push_keeps

pub returns-clause-published : goal.returns-clause-published
returns-clause-published c = push_publishes
