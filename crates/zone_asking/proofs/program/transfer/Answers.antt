use Rattle.std.proofs.Common.{inl, inr}
use Rattle.zone_asking.proofs.Dues.{untouched}
use Rattle.zone_asking.proofs.program.transfer.Goals as goal

pub returns-clause-report : goal.returns-clause-report
returns-clause-report g c = rw (c.in_ok-desk.ensures, c.as_slice.ensures) at c.transfer_at-told.ensures.report c.args.script

pub returns-clause-over_streams : goal.returns-clause-over_streams
returns-clause-over_streams g c = inr (rw c.in_ok-desk.ensures at c.transfer_at-told.ensures.over_streams)

pub returns-in_err-desk-clause-over_streams : goal.returns-in_err-desk-clause-over_streams
returns-in_err-desk-clause-over_streams g c = inl untouched
