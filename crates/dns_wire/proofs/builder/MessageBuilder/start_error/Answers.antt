use Rattle.std.proofs.Common.{◌≡◌, ◌<◌, ◌≤◌, ◌^◌, ◌++◌, length, drop, ap, ◌∙◌, arith}
use Rattle.std.specs.Prelude.{if◌then◌else◌}
use Rattle.std.specs.List.{filter_map}
use Rattle.std.proofs.lemmas.Result.{err_from_is_err_and}
use Rattle.dns_wire.specs.Wire.{Header, header_wire, message_wire}
use Rattle.dns_wire.specs.Reply.{answer_header, error_answer}
use Rattle.dns_wire.specs.Parse.{questions_in}
use Rattle.dns_wire.proofs.Questions.{few_questions, none_asked}
use Rattle.dns_wire.specs.Builds.{building}
use Rattle.dns_wire.proofs.ErrorAnswers.{error_built, error_fits, error_refused}
use Rattle.dns_wire.proofs.builder.MessageBuilder.start_error.Goals as goal

pub push_fitting-requires-clause-few : goal.push_fitting-requires-clause-few
push_fitting-requires-clause-few c =
    omega (arith, none_asked _ _ _ c.restarted-message.ensures, few_questions c.question.result.left, c.question.ensures.few)

pub returns-in_err-all : goal.returns-in_err-all
returns-in_err-all c =
    let from = err_from_is_err_and c.from_residual.result c.from_residual.ensures.1 in
    let few : length (filter_map (λ q. q) c.question.result.left) < 2 ^ 16 = omega (arith, few_questions c.question.result.left, c.question.ensures.few) in
    let asked : filter_map (λ q. q) c.question.result.left ≡ questions_in c.args.request.now = ap (λ s. filter_map (λ q. q) s.left) c.question.ensures.value in
    let room : length c.restarted-message.result.octets ≤ c.restarted-message.result.limit = rw (← c.message.view_is) (omega (arith, c.len.ensures, c.if-message-len.false)) in
    let twelve = rw c.restarted-message.ensures at room in
    let fit = error_fits c.args.self.limit c.args.rcode c.args.request.now twelve (rw asked at few) in
    rw (from.1, from.2) (error_refused (message_wire (error_answer c.args.self.limit c.args.request.now c.args.rcode)) c.args.self.limit c.answer.result c.restarted-message.result c.push_fitting.new.self
    (filter_map (λ q. q) c.question.result.left) _ fit c.restarted-message.ensures few c.in_err-all.ensures)

pub returns : goal.returns
returns c =
    let header = c.answer.ensures ∙ ap (λ (h : Header). answer_header h 0) c.header-asked.ensures in
    let begun = rw header at c.restarted-message.ensures in
    let few : length (filter_map (λ q. q) c.question.result.left) < 2 ^ 16 = omega (arith, few_questions c.question.result.left, c.question.ensures.few) in
    let asked : filter_map (λ q. q) c.question.result.left ≡ questions_in c.args.request.now = ap (λ s. filter_map (λ q. q) s.left) c.question.ensures.value in
    let room : length c.restarted-message.result.octets ≤ c.restarted-message.result.limit = rw (← c.message.view_is) (omega (arith, c.len.ensures, c.if-message-len.false)) in
    let headed = c.set_error_header.ensures ∙ ap (λ (h : Header). building (header_wire (answer_header h (if c.in_ok-all.all then c.args.rcode else 2)) ++ drop 4 c.push_fitting.new.self.octets) c.push_fitting.new.self.limit) c.header-asked.ensures in
    rw c.answer-2.ensures (error_built c.args.request.now c.args.rcode c.args.self.limit c.in_ok-all.all c.restarted-message.result c.push_fitting.new.self c.set_error_header.new.self
    (filter_map (λ q. q) c.question.result.left) begun asked few room c.in_ok-all.ensures headed)
