use Rattle.xfr_model.proofs.InTurn.{reads_next}
use Rattle.xfr_model.proofs.InTurn.{interpreter_steps, finishes_as_read}
use Rattle.xfr_model.proofs.reading_laws.reads_next.Goals as goal

pub returns-clause-next : goal.returns-clause-next
returns-clause-next c = reads_next

pub returns-clause-steps : goal.returns-clause-steps
returns-clause-steps c = interpreter_steps

pub returns-clause-finished : goal.returns-clause-finished
returns-clause-finished c = finishes_as_read
