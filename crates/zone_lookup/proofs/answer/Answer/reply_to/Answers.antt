use Rattle.std.proofs.Common.{◌≡◌, ℕ, [], sym, ◌∙◌, subst}
use Rattle.std.specs.Prelude.{IfOk}
use Rattle.dns_wire.specs.Wire.{Message, message_wire}
use Rattle.dns_wire.specs.Reply.{answer_with}
use Rattle.dns_wire.specs.Builds.{building}
use Rattle.zone_lookup.specs.Sending.{replies_to}
use Rattle.zone_lookup.proofs.Choosing.{header_or, header_if_none}
use Rattle.zone_lookup.proofs.answer.Answer.reply_to.Goals as goal

pub returns-in-Some : goal.returns-in-Some
returns-in-Some c =
    let a = c.args in
    header_or a.limit a.request.now a.self.now.rcode (replies_to a.request.now a.self.now a.question.now) c.in-Some.reply (sym c.in-Some.is ∙ c.in_ok-reply.ensures.found)

pub returns-in-None : goal.returns-in-None
returns-in-None c =
    let a = c.args in
    let P : Message → Type 0 = λ m. IfOk c.header_alone.result (λ reply. reply ≡ building (message_wire m) a.limit) in
    let Q : ℕ → Type 0 = λ r. P (answer_with a.request.now r []) in
    subst P (header_if_none a.limit a.request.now a.self.now.rcode (replies_to a.request.now a.self.now a.question.now) (sym c.in-None.is ∙ c.in_ok-reply.ensures.found))
    (subst Q c.rcode.ensures c.header_alone.ensures)
