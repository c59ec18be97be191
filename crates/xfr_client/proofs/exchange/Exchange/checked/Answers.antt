use Rattle.std.proofs.lemmas.Result.{err_from_is_err_and}
use Rattle.xfr_client.specs.SoFar.{asked_mac}
use Rattle.xfr_client.proofs.Checking.{answer_refused, answer_checked}
use Rattle.xfr_client.proofs.exchange.Exchange.checked.Goals as goal

pub returns-in_err-answer-clause-answers : goal.returns-in_err-answer-clause-answers
returns-in_err-answer-clause-answers c a taken at key stands =
    let p = err_from_is_err_and c.from_residual-in_err-answer.result c.from_residual-in_err-answer.ensures.1 in
    rw (p.1, p.2) (answer_refused a taken c.args.octets.items c.in_ok-message.message c.answer.new.message c.args.self.now.sequence.key c.args.at c.in_err-answer.field-0.0 key at c.in_ok-message.ensures.found c.in_ok-message.ensures.whole
    (c.in_err-answer.ensures.checked (asked_mac a) taken stands))

pub returns-clause-answers : goal.returns-clause-answers
returns-clause-answers c a taken at key stands =
    answer_checked a taken c.args.octets.items c.in_ok-message.message c.answer.new.message c.args.self.now.sequence.key c.args.at c.answer.new.self key at c.in_ok-message.ensures.found c.in_ok-message.ensures.whole
    (c.in_ok-answer.ensures.checked (asked_mac a) taken stands) (c.in_ok-answer.ensures.taken.0) (c.in_ok-answer.ensures.taken.1 (asked_mac a) taken stands)
