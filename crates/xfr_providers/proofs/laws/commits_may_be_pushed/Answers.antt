use Rattle.xfr_providers.proofs.Histories.{commits_push}
use Rattle.xfr_providers.proofs.laws.commits_may_be_pushed.Goals as goal

pub returns : goal.returns
returns c = commits_push
