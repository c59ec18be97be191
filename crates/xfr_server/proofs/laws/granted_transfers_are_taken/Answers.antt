use Rattle.xfr_server.proofs.Accepted.{whole_is_taken, transfer_is_message}
use Rattle.xfr_server.proofs.laws.granted_transfers_are_taken.Goals as goal

pub returns : goal.returns
returns c = record { taken = whole_is_taken; wire = transfer_is_message }
