use Rattle.xfr_outcomes.specs.Modes.{mode_of}
use Rattle.zone_sync.proofs.ReportLaw.{reported_so}
use Rattle.zone_sync.proofs.program.transfer.Goals as goal

pub returns-in_ok-report-in-Ok-clause-report : goal.returns-in_ok-report-in-Ok-clause-report
returns-in_ok-report-in-Ok-clause-report g c =
    reported_so _ (mode_of c.args.mode) c.args.readers c.args.script _ c.in-Ok.ended.outcome c.in-Ok.ended.made c.in-Ok.ended.last c.in-Ok.ended.status c.in-Ok.ensures.ended
    c.as_slice.result.now _ c.as_slice-in-Ok.result.now c.as_slice.ensures (rw c.as_slice-in-Ok.ensures.value c.in-Ok.ensures.lines) (rw c.in_ok-report-in-Ok.was at c.report_octets-report.ensures)

pub returns-in_ok-report-in-Ok-clause-others : goal.returns-in_ok-report-in-Ok-clause-others
returns-in_ok-report-in-Ok-clause-others g c = (returns-in_ok-report-in-Ok-clause-report g c).known
