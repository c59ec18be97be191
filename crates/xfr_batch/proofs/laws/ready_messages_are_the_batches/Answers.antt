use Rattle.xfr_batch.proofs.XfrReady.{ready_are}
use Rattle.xfr_batch.proofs.laws.ready_messages_are_the_batches.Goals as goal

pub returns : goal.returns
returns c = λ request s t batches handed. ready_are request s batches t handed
