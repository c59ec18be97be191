use Rattle.std.proofs.lemmas.Result.{err_from_is_err_and}
use Rattle.xfr_client.specs.SoFar.{message_so_far}
use Rattle.xfr_client.proofs.Answering.{refuses_fault, reads_on}
use Rattle.xfr_client.proofs.exchange.Exchange.read.Goals as goal

pub returns-in_err-interpret_response-clause-tests : goal.returns-in_err-interpret_response-clause-tests
returns-in_err-interpret_response-clause-tests c a begun place i q is w =
    let m = message_so_far c.args.message.now in
    let x = c.in_ok-answers.ensures a i q in
    let p = err_from_is_err_and c.from_residual-in_err-interpret_response.result c.from_residual-in_err-interpret_response.ensures.1 in
    rw (p.1, p.2) (refuses_fault a begun place c.args.self.now.interpreter m c.in_err-interpret_response.field-0.0 is w x.0 (c.in_err-interpret_response.ensures.refused m x.1))

pub returns-clause-tests : goal.returns-clause-tests
returns-clause-tests c a begun place i q is w =
    let m = message_so_far c.args.message.now in
    let x = c.in_ok-answers.ensures a i q in
    reads_on a begun place c.args.self.now.interpreter c.interpret_response.new.self m c.in_ok-interpret_response.field-0 is w x.0 (c.in_ok-interpret_response.ensures.ok m x.1)
