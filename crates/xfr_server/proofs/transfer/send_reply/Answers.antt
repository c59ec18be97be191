use Rattle.std.specs.Prelude.{option_map}
use Rattle.xfr_server.specs.Items.{one_reply}
use Rattle.xfr_server.specs.Transfers.{udp_reply}
use Rattle.xfr_server.specs.Choosing.{short_sent}
use Rattle.xfr_server.specs.Streams.{TransferLeft}
use Rattle.xfr_server.proofs.Choice.{calls_short}
use Rattle.xfr_server.proofs.transfer.send_reply.Goals as goal

pub returns-in-Short : goal.returns-in-Short
returns-in-Short g c =
    rw (c.in-Short.is) (calls_short (TransferLeft g.S.ReplyStream.LeftOf) c.args.request c.args.limit c.args.is_udp c.in-Short.short c.sent_once.result
    (c.sent_once.ensures (option_map one_reply (short_sent c.args.request c.args.limit c.in-Short.short)) c.short_reply.ensures))

pub returns-in-Text : goal.returns-in-Text
returns-in-Text g c =
    rw (c.in-Text.is, c.if-is_udp.true) (c.sent_once-in-Text.ensures (option_map one_reply (udp_reply c.args.request c.args.limit c.in-Text.text.zone.version c.in-Text.text.records)) c.one_message.ensures)
