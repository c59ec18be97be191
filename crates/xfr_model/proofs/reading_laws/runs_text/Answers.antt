use Rattle.xfr_model.proofs.Runs.{runs_text}
use Rattle.xfr_model.proofs.reading_laws.runs_text.Goals as goal

pub returns : goal.returns
returns c = runs_text
