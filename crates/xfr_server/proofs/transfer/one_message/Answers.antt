use Rattle.std.proofs.Common.{ap, ◌∙◌}
use Rattle.xfr_server.proofs.Choice.{makes_soa, udp_some}
use Rattle.xfr_server.proofs.transfer.one_message.Goals as goal

pub returns-in-Err-ShortBuf : goal.returns-in-Err-ShortBuf
returns-in-Err-ShortBuf c =
    makes_soa c.args.request.now c.args.limit c.args.text.zone.version c.zone.result.now.version c.args.text.records c.soa_alone.result
    c.in-Err-ShortBuf.field-0 c.in-Err-ShortBuf.field-0-is c.in-Err-ShortBuf.ensures.built
    (ap (λ z. z.version) (c.zone.ensures ∙ c.in-Err-ShortBuf.ensures.zone)) c.soa_alone.ensures

pub returns-in-Err-Memory : goal.returns-in-Err-Memory
returns-in-Err-Memory c =
    udp_some c.args.request.now c.args.limit c.args.text.zone.version c.args.text.records (rw c.in-Err-Memory.field-0-is at c.in-Err-Memory.ensures.built)
