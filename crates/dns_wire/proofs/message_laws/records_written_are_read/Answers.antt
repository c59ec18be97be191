use Rattle.dns_wire.proofs.DataWriting.{readable_again}
use Rattle.dns_wire.proofs.message_laws.records_written_are_read.Goals as goal

pub returns : goal.returns
returns c = readable_again
