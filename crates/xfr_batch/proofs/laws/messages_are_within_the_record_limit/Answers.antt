use Rattle.xfr_batch.proofs.XfrReady.{each_within_limit}
use Rattle.xfr_batch.proofs.laws.messages_are_within_the_record_limit.Goals as goal

pub returns : goal.returns
returns c = λ b pushed batches n one st. each_within_limit b pushed batches n one st
