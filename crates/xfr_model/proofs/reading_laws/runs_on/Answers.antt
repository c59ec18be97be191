use Rattle.xfr_model.proofs.Runs.{runs_on}
use Rattle.xfr_model.proofs.reading_laws.runs_on.Goals as goal

pub returns : goal.returns
returns c = runs_on
