use Rattle.dns_wire.proofs.ItemWriting.{parsed-message_wire}
use Rattle.dns_wire.proofs.message_laws.messages_written_are_read.Goals as goal

pub returns : goal.returns
returns c = parsed-message_wire
