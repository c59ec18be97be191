-- A message with the header of a transfer.
use Rattle.std.proofs.Common.{◌≡◌, ℕ, List, [], ◌++◌, drop}
use Rattle.dns_wire.specs.Wire.{header_in, header_wire, message_wire}
use Rattle.dns_wire.specs.Reply.{empty_answer}
use Rattle.xfr_batch.specs.XfrBatches.{axfr_header}
use Rattle.xfr_replies.specs.TransferPages.{page_answer}
use Rattle.xfr_services.proofs.Headers.{reheaded}

pub as_transfer : (request : List ℕ) → header_wire (axfr_header (header_in request)) ++ drop 4 (message_wire (empty_answer request 0)) ≡ message_wire (page_answer request [])
as_transfer request = reheaded (axfr_header (header_in request)) (empty_answer request 0)
