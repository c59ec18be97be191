use Rattle.xfr_model.proofs.InTurn.{takes_on}
use Rattle.xfr_model.proofs.reading_laws.takes_on.Goals as goal

pub returns : goal.returns
returns c = takes_on
