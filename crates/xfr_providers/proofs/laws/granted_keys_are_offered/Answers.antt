use Rattle.xfr_providers.proofs.Granted.{history_grants}
use Rattle.xfr_providers.proofs.laws.granted_keys_are_offered.Goals as goal

pub returns : goal.returns
returns c = history_grants
