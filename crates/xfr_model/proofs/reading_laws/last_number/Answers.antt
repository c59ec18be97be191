use Rattle.xfr_model.proofs.FinerSteps.{last_number}
use Rattle.xfr_model.proofs.reading_laws.last_number.Goals as goal

pub returns : goal.returns
returns c = last_number
