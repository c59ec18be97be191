use Rattle.xfr_model.proofs.InTurn.{updates_on}
use Rattle.xfr_model.proofs.Limits.{spells_on}
use Rattle.xfr_model.proofs.reading_laws.spells_on.Goals as goal

pub returns-clause-updates : goal.returns-clause-updates
returns-clause-updates c = updates_on

pub returns-clause-spelt : goal.returns-clause-spelt
returns-clause-spelt c = spells_on
