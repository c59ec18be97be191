use Rattle.xfr_batch.proofs.XfrAnswers.{answers_push, single_message, finish_refused}
use Rattle.xfr_batch.proofs.laws.transfers_answer_by_room.Goals as goal

pub returns-clause-pushes : goal.returns-clause-pushes
returns-clause-pushes c = λ old new pushed batches r result p. answers_push old new pushed batches r result p

pub returns-clause-single : goal.returns-clause-single
returns-clause-single c = λ old new pushed batches r result p must. single_message old new pushed batches r result p must

pub returns-clause-finishes : goal.returns-clause-finishes
returns-clause-finishes c = λ old new pushed batches e f. finish_refused old new pushed batches e f
