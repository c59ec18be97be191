use Rattle.dns_numbers.proofs.Serials.{steps_lead_on, steps_between, one_way}
use Rattle.dns_numbers.proofs.laws.serials_count_on.Goals as goal

pub returns-clause-steps : goal.returns-clause-steps
returns-clause-steps c = steps_lead_on

pub returns-clause-reached : goal.returns-clause-reached
returns-clause-reached c = steps_between

pub returns-clause-one_way : goal.returns-clause-one_way
returns-clause-one_way c = one_way
