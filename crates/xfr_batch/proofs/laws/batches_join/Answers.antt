use Rattle.xfr_batch.proofs.BatchHistories.{batches_join, none_is_empty}
use Rattle.xfr_batch.proofs.laws.batches_join.Goals as goal

pub returns-clause-joined : goal.returns-clause-joined
returns-clause-joined g c = λ b pushed batches none closed st. batches_join g.C.Callbacks.begins g.C.Callbacks.is_full b pushed batches none closed st

pub returns-clause-some : goal.returns-clause-some
returns-clause-some g c = λ b pushed batches st. none_is_empty g.C.Callbacks.begins g.C.Callbacks.is_full b pushed batches st
