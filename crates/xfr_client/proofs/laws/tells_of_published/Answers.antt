use Rattle.xfr_client.proofs.ToldOf.{tells_of_published}
use Rattle.xfr_client.proofs.laws.tells_of_published.Goals as goal

pub returns : goal.returns
returns c = tells_of_published
