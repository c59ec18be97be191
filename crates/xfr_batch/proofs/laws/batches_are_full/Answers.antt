use Rattle.xfr_batch.proofs.BatchHistories.{each_full, each_short, each_within}
use Rattle.xfr_batch.proofs.laws.batches_are_full.Goals as goal

pub returns-clause-said : goal.returns-clause-said
returns-clause-said g c = λ b pushed batches st. each_full g.C.Callbacks.begins g.C.Callbacks.is_full b pushed batches st

pub returns-clause-no_room : goal.returns-clause-no_room
returns-clause-no_room g c = λ b pushed batches r st. each_short g.C.Callbacks.begins g.C.Callbacks.is_full b pushed batches r st

pub returns-clause-within : goal.returns-clause-within
returns-clause-within g c = λ b pushed batches st. each_within g.C.Callbacks.begins g.C.Callbacks.is_full b pushed batches st
