use Rattle.dns_wire.proofs.ErrorAnswers.{error_fits}
use Rattle.dns_wire.proofs.laws.error_answers_fit.Goals as goal

pub returns : goal.returns
returns c = λ limit rcode request room few. error_fits limit rcode request room few
