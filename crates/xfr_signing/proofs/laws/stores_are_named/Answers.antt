use Rattle.xfr_signing.proofs.Keys.{stores_are_named}
use Rattle.xfr_signing.proofs.laws.stores_are_named.Goals as goal

pub returns : goal.returns
returns c = stores_are_named
