use Rattle.zone_generated.proofs.Digits.{first_of_two, second_of_two, sets_of_two}
use Rattle.zone_generated.proofs.examples.two_row.Goals as goal

pub returns-clause-first_label : goal.returns-clause-first_label
returns-clause-first_label c = first_of_two

pub returns-clause-second_label : goal.returns-clause-second_label
returns-clause-second_label c = second_of_two

pub returns-clause-sets : goal.returns-clause-sets
returns-clause-sets c = sets_of_two
