use Rattle.xfr_outcomes.specs.Modes.{mode_of}
use Rattle.zone_sync.proofs.Dues.{report_taken}
use Rattle.zone_sync.proofs.program.run_transfer.Goals as goal

pub returns-in-Ok-clause-written : goal.returns-in-Ok-clause-written
returns-in-Ok-clause-written g c =
    report_taken _ (mode_of c.args.mode) c.args.readers _ _ c.in-Ok.report.items c.as_slice.result.now c.in-Ok.status c.write_last.result _ _ c.in-Ok.ensures.report c.as_slice.ensures.value c.write_last.ensures.done c.write_last.ensures.written
