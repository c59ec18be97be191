use Rattle.std.specs.List.{filter_map}
use Rattle.std.proofs.lemmas.Result.{err_from_is_err_and}
use Rattle.dns_wire.proofs.Questions.{questions_refused}
use Rattle.dns_wire.proofs.builder.MessageBuilder.push_questions.Goals as goal

pub returns-in_err-push_question-in-Some-Ok : goal.returns-in_err-push_question-in-Some-Ok
returns-in_err-push_question-in-Some-Ok c =
    let from = err_from_is_err_and c.from_residual.result c.from_residual.ensures.1 in
    let next = rw c.in-Some-Ok.field-0-is at c.in-Some-Ok.ensures in
    let same = rw next.0 at c.loop-question.invariant.rest in
    let count = rw next.0 at c.loop-question.invariant.count in
    rw (from.1, from.2) (questions_refused (Unit {0}) (Unit {0}) c.args.self.now c.loop-question.self c.push_question.new.self c.push_question.new.self c.in-Some-Ok.question
    (filter_map (λ q. q) c.next_question.new.self.left) (filter_map (λ q. q) c.args.questions.left) _ c.loop-question.invariant.limit same count
    c.requires.room c.requires.few c.in_err-push_question-in-Some-Ok.ensures)
