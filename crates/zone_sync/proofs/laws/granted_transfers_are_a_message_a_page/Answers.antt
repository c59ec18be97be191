use Rattle.zone_sync.proofs.HonestRequests.{request_has_header}
use Rattle.zone_sync.proofs.HonestReplies.{sends_each}
use Rattle.zone_sync.proofs.laws.granted_transfers_are_a_message_a_page.Goals as goal

pub returns : goal.returns
returns c = record { asked = request_has_header; sent = sends_each }
