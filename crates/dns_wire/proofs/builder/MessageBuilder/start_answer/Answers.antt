use Rattle.std.proofs.Common.{◌≡◌, ◌<◌, ◌^◌, length, sym, ap, ◌∙◌, arith}
use Rattle.std.specs.List.{filter_map, flat_map}
use Rattle.std.proofs.lemmas.Result.{err_from_is_err_and}
use Rattle.dns_wire.specs.Wire.{Header, question_wire}
use Rattle.dns_wire.specs.Reply.{answer_header}
use Rattle.dns_wire.specs.Parse.{questions_in}
use Rattle.dns_wire.proofs.Questions.{few_questions, answer_refused, answer_built, answer_room, asked_fit, none_asked}
use Rattle.dns_wire.proofs.builder.MessageBuilder.start_answer.Goals as goal

pub returns-then-not-has_room : goal.returns-then-not-has_room
returns-then-not-has_room c =
    let header = c.answer.ensures ∙ ap (λ (h : Header). answer_header h c.args.rcode) c.header.ensures in
    let begun = rw header at c.restarted-message.ensures in
    let len = c.questions_len.ensures.len ∙ ap (λ s. length (flat_map question_wire (filter_map (λ q. q) s.left))) c.question.ensures.value in
    sym (answer_room c.args.request.now c.args.rcode c.args.self.limit _ c.restarted-message.result begun len) ∙ sym c.has_room.ensures ∙ c.if-not-has_room.true

pub push_questions-requires-clause-room : goal.push_questions-requires-clause-room
push_questions-requires-clause-room c =
    let header = c.answer.ensures ∙ ap (λ (h : Header). answer_header h c.args.rcode) c.header.ensures in
    let begun = rw header at c.restarted-message.ensures in
    let len = c.questions_len.ensures.len ∙ ap (λ s. length (flat_map question_wire (filter_map (λ q. q) s.left))) c.question.ensures.value in
    let few : length (filter_map (λ q. q) c.question-2.result.left) < 2 ^ 16 = omega (arith, few_questions c.question-2.result.left, c.question-2.ensures.few) in
    let asked : filter_map (λ q. q) c.question-2.result.left ≡ questions_in c.args.request.now = ap (λ s. filter_map (λ q. q) s.left) c.question-2.ensures.value in
    let room = sym (answer_room c.args.request.now c.args.rcode c.args.self.limit _ c.restarted-message.result begun len) ∙ sym c.has_room.ensures ∙ c.if-not-has_room.false in
    asked_fit c.args.request.now c.args.rcode c.args.self.limit c.restarted-message.result (filter_map (λ q. q) c.question-2.result.left) begun asked few room

pub push_questions-requires-clause-few : goal.push_questions-requires-clause-few
push_questions-requires-clause-few c =
    omega (arith, none_asked _ _ _ c.restarted-message.ensures, few_questions c.question-2.result.left, c.question-2.ensures.few)

pub returns-in_err-push_questions : goal.returns-in_err-push_questions
returns-in_err-push_questions c =
    let from = err_from_is_err_and c.from_residual.result c.from_residual.ensures.1 in
    let header = c.answer.ensures ∙ ap (λ (h : Header). answer_header h c.args.rcode) c.header.ensures in
    let begun = rw header at c.restarted-message.ensures in
    let few : length (filter_map (λ q. q) c.question-2.result.left) < 2 ^ 16 = omega (arith, few_questions c.question-2.result.left, c.question-2.ensures.few) in
    let asked : filter_map (λ q. q) c.question-2.result.left ≡ questions_in c.args.request.now = ap (λ s. filter_map (λ q. q) s.left) c.question-2.ensures.value in
    rw (from.1, from.2) (answer_refused (Unit {0}) c.args.request.now c.args.rcode c.args.self.limit c.restarted-message.result c.push_questions.new.self
    (filter_map (λ q. q) c.question-2.result.left) _ begun asked few c.in_err-push_questions.ensures)

pub returns : goal.returns
returns c =
    let header = c.answer.ensures ∙ ap (λ (h : Header). answer_header h c.args.rcode) c.header.ensures in
    let begun = rw header at c.restarted-message.ensures in
    let few : length (filter_map (λ q. q) c.question-2.result.left) < 2 ^ 16 = omega (arith, few_questions c.question-2.result.left, c.question-2.ensures.few) in
    let asked : filter_map (λ q. q) c.question-2.result.left ≡ questions_in c.args.request.now = ap (λ s. filter_map (λ q. q) s.left) c.question-2.ensures.value in
    rw c.answer-2.ensures (answer_built (Unit {0}) _ c.args.request.now c.args.rcode c.args.self.limit c.restarted-message.result c.push_questions.new.self
    (filter_map (λ q. q) c.question-2.result.left) begun asked few c.in_ok-push_questions.ensures)
