use Rattle.xfr_providers.proofs.Histories.{history_is_offered}
use Rattle.xfr_providers.proofs.laws.histories_are_offered.Goals as goal

pub returns : goal.returns
returns c = history_is_offered
