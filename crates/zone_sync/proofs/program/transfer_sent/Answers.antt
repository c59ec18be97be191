use Rattle.zone_sync.proofs.program.transfer_sent.Goals as goal

pub returns-in_ok-ended-in-Ok-clause-ended : goal.returns-in_ok-ended-in-Ok-clause-ended
returns-in_ok-ended-in-Ok-clause-ended g c =
    rw (c.in-Ok.ensures.cases, c.in_ok-secondary.ensures, c.new.ensures, c.generated_key.ensures, c.from_u64-begin.ensures) at c.in_ok-ended-in-Ok.ensures.ended

pub returns-in_ok-ended-in-Ok-clause-over_link : goal.returns-in_ok-ended-in-Ok-clause-over_link
returns-in_ok-ended-in-Ok-clause-over_link g c =
    rw (c.in-Ok.ensures.cases, c.in_ok-secondary.ensures, c.new.ensures, c.generated_key.ensures, c.from_u64-begin.ensures) at c.transfer_from.ensures.over_link

pub returns-in_err-ended-in-Ok-clause-over_link : goal.returns-in_err-ended-in-Ok-clause-over_link
returns-in_err-ended-in-Ok-clause-over_link g c =
    rw (c.in-Ok.ensures.cases, c.in_ok-secondary.ensures, c.new.ensures, c.generated_key.ensures, c.from_u64-begin.ensures) at c.transfer_from.ensures.over_link
