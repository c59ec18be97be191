use Rattle.tsig_port.proofs.Passing.{passes_one_more, each_is_checked, each_is_faultless}
use Rattle.tsig_port.proofs.laws.taken_one_by_one_is_checked.Goals as goal

pub returns-clause-one_more : goal.returns-clause-one_more
returns-clause-one_more c = passes_one_more

pub returns-clause-checked : goal.returns-clause-checked
returns-clause-checked c = each_is_checked

pub returns-clause-faultless : goal.returns-clause-faultless
returns-clause-faultless c = each_is_faultless
