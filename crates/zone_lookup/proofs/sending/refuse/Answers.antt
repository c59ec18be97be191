use Rattle.std.proofs.Common.{◌≡◌, ap, subst}
use Rattle.std.specs.Prelude.{IfOk}
use Rattle.dns_wire.specs.Wire.{Building, Message, message_wire}
use Rattle.dns_wire.specs.Reply.{error_answer}
use Rattle.dns_wire.specs.Builds.{building}
use Rattle.zone_lookup.proofs.Choosing.{short_told, refusal_built, refusal_short}
use Rattle.zone_lookup.proofs.sending.refuse.Goals as goal

pub returns-in-Ok : goal.returns-in-Ok
returns-in-Ok c =
    let a = c.args in
    refusal_built a.limit c.set_push_limit.new.self.limit c.refusal_code-rcode.result a.request.now c.in-Ok.section c.additional.result
    (ap (λ (b : Building). b.limit) c.set_push_limit.ensures) c.refusal_code-rcode.ensures c.additional.ensures c.in-Ok.ensures

pub returns-in-Err-ShortBuf : goal.returns-in-Err-ShortBuf
returns-in-Err-ShortBuf c =
    let a = c.args in
    let P : Message → Type 0 = λ m. IfOk c.header_alone.result (λ reply. reply ≡ building (message_wire m) a.limit) in
    let b = c.set_push_limit.new.self.limit in
    let short = short_told (message_wire (error_answer b a.request.now c.refusal_code-rcode.result)) b c.in-Err-ShortBuf.field-0 c.in-Err-ShortBuf.field-0-is c.in-Err-ShortBuf.ensures in
    subst P (refusal_short a.limit b c.refusal_code-rcode.result a.request.now (ap (λ (x : Building). x.limit) c.set_push_limit.ensures) c.refusal_code-rcode.ensures short)
    c.header_alone.ensures
