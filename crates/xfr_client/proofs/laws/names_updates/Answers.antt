use Rattle.xfr_client.proofs.Named.{names_updates}
use Rattle.xfr_client.proofs.laws.names_updates.Goals as goal

pub returns : goal.returns
returns c = names_updates
