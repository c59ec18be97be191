use Rattle.zone_model.proofs.Applied.{commits_spelling}
use Rattle.zone_model.proofs.text_laws.commits_spelling.Goals as goal

pub returns : goal.returns
returns c = commits_spelling
