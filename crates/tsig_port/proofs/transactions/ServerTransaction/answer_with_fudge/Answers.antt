use Rattle.std.proofs.Common.{[]}
use Rattle.tsig_port.proofs.transactions.ServerTransaction.answer_with_fudge.Goals as goal

pub returns : goal.returns
returns g c = λ request_mac stands. c.answer_with_fudge.ensures.signed request_mac [] stands
