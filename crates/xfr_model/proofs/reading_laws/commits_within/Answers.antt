use Rattle.xfr_model.proofs.Limits.{commits_within}
use Rattle.xfr_model.proofs.reading_laws.commits_within.Goals as goal

pub returns : goal.returns
returns c = commits_within
