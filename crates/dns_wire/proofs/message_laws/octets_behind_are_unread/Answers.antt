use Rattle.dns_wire.proofs.Behind.{parsed_kept}
use Rattle.dns_wire.proofs.message_laws.octets_behind_are_unread.Goals as goal

pub returns : goal.returns
returns c = parsed_kept
