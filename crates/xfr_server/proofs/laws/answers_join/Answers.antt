use Rattle.xfr_server.proofs.JoinedAnswers.{answers_join}
use Rattle.xfr_server.proofs.laws.answers_join.Goals as goal

pub returns : goal.returns
returns c = answers_join
