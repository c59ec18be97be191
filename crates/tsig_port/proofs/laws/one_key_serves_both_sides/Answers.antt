use Rattle.tsig_port.proofs.OneKeys.{one_accepted, one_checked, one_faultless}
use Rattle.tsig_port.proofs.laws.one_key_serves_both_sides.Goals as goal

pub returns-clause-accepted : goal.returns-clause-accepted
returns-clause-accepted c = one_accepted

pub returns-clause-checked : goal.returns-clause-checked
returns-clause-checked c = one_checked

pub returns-clause-faultless : goal.returns-clause-faultless
returns-clause-faultless c = one_faultless
