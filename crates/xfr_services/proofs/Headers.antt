-- A message with another header.
use Rattle.std.proofs.Common.{◌≡◌, ℕ, true, List, ◌++◌, length, drop, refl}
use Rattle.dns_wire.specs.Wire.{Header, Message, header_in, header_wire, message_wire}
use Rattle.dns_wire.specs.Reply.{answer_header, empty_answer}
use Rattle.xfr_services.specs.Replying.{truncated_answer}

-- the first four octets are the header
pub reheaded : (h : Header) (m : Message) → header_wire h ++ drop 4 (message_wire m) ≡ message_wire (record m { header = h })
reheaded h m = refl

-- which is as long as any
pub same_length : (h : Header) (m : Message) → length (message_wire (record m { header = h })) ≡ length (message_wire m)
same_length h m = refl

pub as_truncated : (request : List ℕ) → header_wire (record (answer_header (header_in request) 0) { tc = true }) ++ drop 4 (message_wire (empty_answer request 0)) ≡ message_wire (truncated_answer request)
as_truncated request = reheaded (record (answer_header (header_in request) 0) { tc = true }) (empty_answer request 0)
