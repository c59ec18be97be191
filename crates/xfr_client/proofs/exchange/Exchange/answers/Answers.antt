use Rattle.std.proofs.Common.{◌≡◌, sym, ap, ◌∙◌, refl}
use Rattle.xfr_model.specs.Read.{OtherAnswer, NotValid}
use Rattle.xfr_client.specs.SoFar.{asked_id, asked_question}
use Rattle.xfr_client.proofs.Answering.{id_refused, unread_refused, parsed_answers}
use Rattle.xfr_client.proofs.exchange.Exchange.answers.Goals as goal

pub returns-then-header-self : goal.returns-then-header-self
returns-then-header-self c a i q =
    let same : c.header.result.id ≡ c.header-2.inside.id = sym (ap (λ h. h.id) c.header-2.view_is) in
    (OtherAnswer, (λ first. id_refused (asked_id a) (asked_question a) c.args.message.now first (λ e. c.if-header-self.true (sym same ∙ ap (λ h. h.id) c.header.ensures ∙ e ∙ sym i)), refl))

pub returns-in-Err : goal.returns-in-Err
returns-in-Err c a i q =
    let same : c.header.result.id ≡ c.header-2.inside.id = sym (ap (λ h. h.id) c.header-2.view_is) in
    (NotValid, (λ first. unread_refused (asked_id a) (asked_question a) c.args.message.now first (ap (λ h. h.id) (sym c.header.ensures) ∙ same ∙ c.if-header-self.false ∙ i) c.in-Err.ensures.unread, refl))

pub returns-in-Ok : goal.returns-in-Ok
returns-in-Ok c a i q =
    let same : c.header.result.id ≡ c.header-2.inside.id = sym (ap (λ h. h.id) c.header-2.view_is) in
    let p = c.in-Ok.ensures.reads in
    parsed_answers a c.args.message.now p.0 c.args.self.now.question c.questions_answer.result p.1.whole (ap (λ h. h.id) (sym c.header.ensures) ∙ same ∙ c.if-header-self.false ∙ i) q c.questions_answer.ensures
