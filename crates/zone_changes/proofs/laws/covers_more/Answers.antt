use Rattle.zone_changes.proofs.Noting.{noted_itself}
use Rattle.zone_changes.proofs.Covering.{covers_itself, covers_noted, covers_noted_all}
use Rattle.zone_changes.proofs.laws.covers_more.Goals as goal

pub returns-clause-itself : goal.returns-clause-itself
returns-clause-itself c = covers_itself

pub returns-clause-noted : goal.returns-clause-noted
returns-clause-noted c = covers_noted

pub returns-clause-noted_all : goal.returns-clause-noted_all
returns-clause-noted_all c = covers_noted_all

pub returns-clause-noted_itself : goal.returns-clause-noted_itself
returns-clause-noted_itself c = noted_itself
