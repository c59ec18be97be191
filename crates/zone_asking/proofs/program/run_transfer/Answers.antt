use Rattle.zone_asking.specs.Wishes.{wished}
use Rattle.zone_asking.proofs.Dues.{report_taken}
use Rattle.zone_asking.proofs.Ends.{tells_last, tells_memory}
use Rattle.zone_asking.proofs.program.run_transfer.Goals as goal

pub returns-in-Ok-clause-written : goal.returns-in-Ok-clause-written
returns-in-Ok-clause-written g c =
    report_taken (wished (c.args.mode, c.args.limits)) _ _ _ c.in-Ok.octets.items c.as_slice.result.now c.in-Ok.status c.write_last.result _ _ c.in-Ok.ensures.report c.as_slice.ensures.value c.write_last.ensures.done c.write_last.ensures.written

pub returns-in-Ok-clause-stream_faults : goal.returns-in-Ok-clause-stream_faults
returns-in-Ok-clause-stream_faults g c = tells_last _ _ _ _ c.write_last.result c.in-Ok.status c.write_last.ensures.done c.in-Ok.ensures.stream_faults

pub returns-in-Err-clause-stream_faults : goal.returns-in-Err-clause-stream_faults
returns-in-Err-clause-stream_faults g c = tells_memory _ _ _ _
