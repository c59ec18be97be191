use Rattle.xfr_client.proofs.ToldAll.{tells_all}
use Rattle.xfr_client.proofs.laws.tells_all.Goals as goal

pub returns : goal.returns
returns c = tells_all
