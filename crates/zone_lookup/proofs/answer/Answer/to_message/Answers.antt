use Rattle.std.proofs.Common.{◌≡◌, sym, subst}
use Rattle.std.specs.Prelude.{Option, IfOk}
use Rattle.dns_wire.specs.Wire.{Question, message_wire}
use Rattle.dns_wire.specs.Builds.{building}
use Rattle.zone_lookup.specs.Sending.{reply_for}
use Rattle.zone_lookup.proofs.answer.Answer.to_message.Goals as goal

pub returns-in-Ok : goal.returns-in-Ok
returns-in-Ok c =
    let a = c.args in
    let P : Option Question → Type 0 = λ o. IfOk c.reply_to.result (λ reply. reply ≡ building (message_wire (reply_for a.limit a.request.now a.self.now o)) a.limit) in
    subst P (sym c.in-Ok.ensures.found) c.reply_to.ensures

pub returns-in-Err : goal.returns-in-Err
returns-in-Err c =
    let a = c.args in
    let P : Option Question → Type 0 = λ o. IfOk c.refuse.result (λ reply. reply ≡ building (message_wire (reply_for a.limit a.request.now a.self.now o)) a.limit) in
    subst P (sym c.in-Err.ensures.none) c.refuse.ensures
