use Rattle.zone_sync.proofs.program.transfer_at.Goals as goal

pub returns-clause-ended : goal.returns-clause-ended
returns-clause-ended g c = rw c.write-session.ensures at c.transfer_beside-ended.ensures.ended

pub returns-clause-over_link : goal.returns-clause-over_link
returns-clause-over_link g c = rw c.write-session.ensures at c.transfer_beside-ended.ensures.over_link
