use Rattle.std.proofs.Common.{refl}
use Rattle.dns_wire.proofs.ItemWriting.{question_read}
use Rattle.dns_wire.proofs.message_laws.questions_written_are_read.Goals as goal

pub returns : goal.returns
returns c = λ before q after name qtype qclass. question_read _ _ q before after refl refl name qtype qclass
