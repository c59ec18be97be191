use Rattle.xfr_server.proofs.Choice.{soa_some}
use Rattle.xfr_server.proofs.transfer.soa_alone.Goals as goal

pub returns-in-Err-Memory : goal.returns-in-Err-Memory
returns-in-Err-Memory c =
    soa_some c.args.request.now c.args.limit c.args.zone.now.version (rw c.in-Err-Memory.field-0-is at c.in-Err-Memory.ensures)
