use Rattle.tsig_port.proofs.Exchanges.{answer_is_accepted, answer_is_kept, answer_keeps_octets, stays_in_step}
use Rattle.tsig_port.proofs.laws.server_answer_is_accepted.Goals as goal

pub returns-clause-accepted : goal.returns-clause-accepted
returns-clause-accepted c = answer_is_accepted

pub returns-clause-kept : goal.returns-clause-kept
returns-clause-kept c = answer_is_kept

pub returns-clause-octets : goal.returns-clause-octets
returns-clause-octets c = answer_keeps_octets

pub returns-clause-in_step : goal.returns-clause-in_step
returns-clause-in_step c = stays_in_step
