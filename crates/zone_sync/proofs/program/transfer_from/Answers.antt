use Rattle.std.proofs.Common.{inl}
use Rattle.zone_sync.proofs.Dues.{untouched}
use Rattle.zone_sync.proofs.program.transfer_from.Goals as goal

pub returns-in-Ok-clause-ended : goal.returns-in-Ok-clause-ended
returns-in-Ok-clause-ended g c = rw c.in-Ok.ensures at c.transfer_to-ended.ensures.ended

pub returns-in-Ok-clause-over_link : goal.returns-in-Ok-clause-over_link
returns-in-Ok-clause-over_link g c = rw c.in-Ok.ensures at c.transfer_to-ended.ensures.over_link

pub returns-in-Err-clause-over_link : goal.returns-in-Err-clause-over_link
returns-in-Err-clause-over_link g c = inl untouched
