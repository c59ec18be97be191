use Rattle.std.proofs.Common.{inl}
use Rattle.zone_sync.proofs.Dues.{untouched}
use Rattle.zone_sync.proofs.program.transfer_to.Goals as goal

pub returns-clause-ended : goal.returns-clause-ended
returns-clause-ended g c = rw c.in_ok-reader.ensures.lasts.1 at c.transfer_at-ended.ensures.ended

pub returns-clause-over_link : goal.returns-clause-over_link
returns-clause-over_link g c = rw c.in_ok-reader.ensures.lasts.1 at c.transfer_at-ended.ensures.over_link

pub returns-in_err-reader-clause-over_link : goal.returns-in_err-reader-clause-over_link
returns-in_err-reader-clause-over_link g c = inl untouched
