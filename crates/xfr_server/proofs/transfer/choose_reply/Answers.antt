use Rattle.std.proofs.Common.{◌≡◌, ap, sym, ◌∙◌}
use Rattle.xfr_server.specs.Transfers.{asked_serial, is_udp}
use Rattle.xfr_server.proofs.Choice.{chosen_offer, offered}
use Rattle.xfr_server.proofs.transfer.choose_reply.Goals as goal

pub returns-in-Ok : goal.returns-in-Ok
returns-in-Ok g c =
    let m = c.args.request.now.message in
    let told = g.X.XfrDataProvider.told c.args.provider.now m c.args.request.now.metadata in
    let asked : c.asked_serial-asked.result ≡ asked_serial m = c.asked_serial-asked.ensures ∙ ap asked_serial c.as_message-message.ensures in
    let test = sym c.lacks_serial.ensures ∙ c.if-lacks_serial.false in
    let is = rw (c.as_message-message.ensures, c.is_udp-is_udp.ensures) at c.reply_with.ensures in
    is ∙ sym (chosen_offer told c.args.mode (is_udp c.args.request.now.transport) m c.in-Ok.found c.asked_serial-asked.result asked test c.in-Ok.ensures)

pub returns-in-Err-Memory : goal.returns-in-Err-Memory
returns-in-Err-Memory g c =
    let m = c.args.request.now.message in
    let told = g.X.XfrDataProvider.told c.args.provider.now m c.args.request.now.metadata in
    let asked : c.asked_serial-asked.result ≡ asked_serial m = c.asked_serial-asked.ensures ∙ ap asked_serial c.as_message-message.ensures in
    let test = sym c.lacks_serial.ensures ∙ c.if-lacks_serial.false in
    offered told c.args.mode m c.asked_serial-asked.result asked test (rw c.in-Err-Memory.field-0-is at c.in-Err-Memory.ensures)
