use Rattle.tsig_port.proofs.Passing.{prefix_stays, prefix_is_faultless, checked_passes}
use Rattle.tsig_port.proofs.laws.checked_prefix_stays.Goals as goal

pub returns-clause-stays : goal.returns-clause-stays
returns-clause-stays c = prefix_stays

pub returns-clause-faultless : goal.returns-clause-faultless
returns-clause-faultless c = prefix_is_faultless

pub returns-clause-passes : goal.returns-clause-passes
returns-clause-passes c = checked_passes
