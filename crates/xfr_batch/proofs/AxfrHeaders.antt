-- A message with the header of a transfer's.
use Rattle.std.proofs.Common.{◌≡◌, ℕ, List, [], ◌++◌, drop, refl}
use Rattle.dns_wire.specs.Wire.{Header, Message, header_in, header_wire, in_answer, message_wire}
use Rattle.dns_wire.specs.Parse.{questions_in}
use Rattle.dns_wire.specs.Reply.{empty_answer}
use Rattle.xfr_batch.specs.XfrBatches.{axfr_header}

-- the first four octets are the header
reheaded : (h : Header) (m : Message) → header_wire h ++ drop 4 (message_wire m) ≡ message_wire (record m { header = h })
reheaded h m = refl

pub as_axfr : (request : List ℕ) → header_wire (axfr_header (header_in request)) ++ drop 4 (message_wire (empty_answer request 0))
    ≡ message_wire (in_answer (axfr_header (header_in request)) (questions_in request) [])
as_axfr request = reheaded (axfr_header (header_in request)) (empty_answer request 0)
