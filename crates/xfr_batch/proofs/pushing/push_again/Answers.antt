use Rattle.xfr_batch.proofs.pushing.push_again.Goals as goal

pub returns-in-Ok-true : goal.returns-in-Ok-true
returns-in-Ok-true g c = λ pushed batches st. rw c.in-Ok-true.field-0-test at (c.in-Ok-true.ensures pushed batches st)

pub returns-in-Ok-false : goal.returns-in-Ok-false
returns-in-Ok-false g c = λ pushed batches st. rw c.in-Ok-false.field-0-test at (c.in-Ok-false.ensures pushed batches st)
