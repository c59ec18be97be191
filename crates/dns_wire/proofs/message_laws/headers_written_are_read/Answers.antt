use Rattle.dns_wire.proofs.Headers.{header_in-header_wire}
use Rattle.dns_wire.proofs.message_laws.headers_written_are_read.Goals as goal

pub returns : goal.returns
returns c = λ h after id opcode rcode. header_in-header_wire h opcode rcode after id
