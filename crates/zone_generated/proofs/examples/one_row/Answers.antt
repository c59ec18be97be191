use Rattle.zone_generated.proofs.Digits.{label_of_one, zone_of_one}
use Rattle.zone_generated.proofs.examples.one_row.Goals as goal

pub returns-clause-label : goal.returns-clause-label
returns-clause-label c = label_of_one

pub returns-clause-zone : goal.returns-clause-zone
returns-clause-zone c = zone_of_one
