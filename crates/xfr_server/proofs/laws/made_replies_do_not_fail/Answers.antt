use Rattle.xfr_server.proofs.GivenReplies.{given_calls}
use Rattle.xfr_server.proofs.laws.made_replies_do_not_fail.Goals as goal

pub returns : goal.returns
returns c = given_calls
