use Rattle.std.proofs.Common.{◌≡◌, ◌∙◌, refl}
use Rattle.std.proofs.lemmas.Result.{err_from_is_err_and}
use Rattle.xfr_outcomes.specs.Modes.{mode_of}
use Rattle.xfr_client.specs.SoFar.{authority_of}
use Rattle.xfr_client.proofs.Requests.{blank, asked_blank, question_added, question_refused, authority_added, authority_refused}
use Rattle.xfr_client.proofs.exchange.ask.Goals as goal

pub returns-in_err-push-clause-refused : goal.returns-in_err-push-clause-refused
returns-in_err-push-clause-refused c =
    let p = err_from_is_err_and c.from_residual-in_err-push.result c.from_residual-in_err-push.ensures.1 in
    let is : c.question-questions.result ≡ blank c.args.id = c.question-questions.ensures ∙ c.set_header.ensures.after ∙ rw (c.new-2.ensures, c.in_ok-builder.ensures) refl in
    rw (p.1, p.2) (question_refused c.args.id c.args.question.now (authority_of (mode_of c.args.mode) c.args.zone.now.version) c.question-questions.result c.push.new.self c.in_err-push.field-0.0 is c.in_err-push.ensures.adds)

pub returns-in_err-push_authority-clause-refused : goal.returns-in_err-push_authority-clause-refused
returns-in_err-push_authority-clause-refused c =
    let p = err_from_is_err_and c.from_residual-in_err-push_authority.result c.from_residual-in_err-push_authority.ensures.1 in
    let is : c.question-questions.result ≡ blank c.args.id = c.question-questions.ensures ∙ c.set_header.ensures.after ∙ rw (c.new-2.ensures, c.in_ok-builder.ensures) refl in
    let asked : c.authority-authority.result ≡ asked_blank c.args.id c.args.question.now =
    c.authority-authority.ensures ∙ c.answer.ensures ∙ question_added c.args.id c.args.question.now c.question-questions.result c.push.new.self is c.in_ok-push.ensures.adds in
    rw (p.1, p.2) (authority_refused c.args.id c.args.question.now (authority_of (mode_of c.args.mode) c.args.zone.now.version) c.authority-authority.result c.push_authority.new.authority c.in_err-push_authority.field-0.0 asked c.in_err-push_authority.ensures.pushes)

pub returns-clause-ok : goal.returns-clause-ok
returns-clause-ok c =
    let is : c.question-questions.result ≡ blank c.args.id = c.question-questions.ensures ∙ c.set_header.ensures.after ∙ rw (c.new-2.ensures, c.in_ok-builder.ensures) refl in
    let asked : c.authority-authority.result ≡ asked_blank c.args.id c.args.question.now =
    c.authority-authority.ensures ∙ c.answer.ensures ∙ question_added c.args.id c.args.question.now c.question-questions.result c.push.new.self is c.in_ok-push.ensures.adds in
    c.additional.ensures ∙ authority_added c.args.id c.args.question.now (mode_of c.args.mode) c.args.zone.now.version c.authority-authority.result c.push_authority.new.authority asked c.in_ok-push_authority.ensures.pushes
