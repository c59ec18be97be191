use Rattle.std.proofs.Common.{ap}
use Rattle.zone_model.specs.Commits.{Commit}
use Rattle.zone_sync.proofs.ReportLaw.{numbers_so}
use Rattle.zone_sync.proofs.program.transfer_generated.Goals as goal

pub returns-in_ok-report-in-Ok-clause-report : goal.returns-in_ok-report-in-Ok-clause-report
returns-in_ok-report-in-Ok-clause-report g c =
    numbers_so _ c.args.size c.args.seed _ c.in-Ok.ended.outcome c.in-Ok.ended.made c.in-Ok.ended.last c.in-Ok.ended.status
    (rw c.in_ok-sent.ensures at c.in-Ok.ensures.ended) c.in_ok-sent.sent.version _ (ap (λ (z : Commit). z.version) c.in_ok-sent.ensures) (rw c.in_ok-report-in-Ok.was at c.counts_octets-report.ensures)

pub returns-in_ok-report-in-Ok-clause-others : goal.returns-in_ok-report-in-Ok-clause-others
returns-in_ok-report-in-Ok-clause-others g c = (returns-in_ok-report-in-Ok-clause-report g c).known

pub returns-in_ok-report-in-Ok-clause-over_link : goal.returns-in_ok-report-in-Ok-clause-over_link
returns-in_ok-report-in-Ok-clause-over_link g c = rw c.in_ok-sent.ensures at c.transfer_sent.ensures.over_link

pub returns-in_err-report-in-Ok-clause-over_link : goal.returns-in_err-report-in-Ok-clause-over_link
returns-in_err-report-in-Ok-clause-over_link g c = rw c.in_ok-sent.ensures at c.transfer_sent.ensures.over_link

pub returns-in-Err-clause-over_link : goal.returns-in-Err-clause-over_link
returns-in-Err-clause-over_link g c = rw c.in_ok-sent.ensures at c.transfer_sent.ensures.over_link
