use Rattle.xfr_model.proofs.Refused.{commits_to_refusal}
use Rattle.xfr_model.proofs.reading_laws.commits_to_refusal.Goals as goal

pub returns : goal.returns
returns c = commits_to_refusal
