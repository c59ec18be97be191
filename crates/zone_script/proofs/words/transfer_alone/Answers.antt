use Rattle.std.proofs.Common.{[]}
use Rattle.zone_script.proofs.words.transfer_alone.Goals as goal

pub returns-in-Some-clause-asked : goal.returns-in-Some-clause-asked
returns-in-Some-clause-asked c = c.in-Some.ensures.asked []

pub returns-in-None-clause-other : goal.returns-in-None-clause-other
returns-in-None-clause-other c = λ m readers. c.in-None.ensures.other [] m readers
