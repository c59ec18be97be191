use Rattle.xfr_model.proofs.Refused.{commits_read, applies_on}
use Rattle.xfr_model.proofs.reading_laws.commits_read.Goals as goal

pub returns-clause-read : goal.returns-clause-read
returns-clause-read c = commits_read

pub returns-clause-on : goal.returns-clause-on
returns-clause-on c = applies_on
