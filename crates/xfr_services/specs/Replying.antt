-- Replies without records.
use Rattle.std.specs.Prelude.{ℕ, true, List, Option, Some, None, option_map, if◌then◌else◌}
use Rattle.dns_wire.specs.Wire.{Building, Message, header_in, message_wire, fits}
use Rattle.dns_wire.specs.Reply.{answer_header, empty_answer}
use Rattle.xfr_services.specs.Items.{Sending, one_reply, all_given}
use Rattle.xfr_services.specs.declared.services.CallResult.{CallResult}

-- not implemented, and refused (RFC 1035, 4.1.1)
abbrev pub notimp : ℕ
notimp = 4

abbrev pub refused : ℕ
refused = 5

-- a message under construction that may have 65,535 octets, where it has no more
abbrev pub built : List ℕ → Option Building
built octets = if fits 65535 octets then Some (record { octets = octets; limit = 65535 }) else None

-- the reply with an rcode, and the request's questions (RFC 1035, 4.1.1)
abbrev pub error_reply : List ℕ → ℕ → Option Building
error_reply request rcode = built (message_wire (empty_answer request rcode))

abbrev pub error_replies : List ℕ → ℕ → Option (List CallResult)
error_replies request rcode = option_map one_reply (error_reply request rcode)

-- one such reply, as it is sent
abbrev pub error_sends : List ℕ → ℕ → Option (List Sending)
error_sends request rcode = option_map all_given (error_replies request rcode)

-- NOERROR with TC, which says that the reply was cut (RFC 8945, 5.3)
abbrev pub truncated_answer : List ℕ → Message
truncated_answer request = record (empty_answer request 0) { header = record (answer_header (header_in request) 0) { tc = true } }

abbrev pub truncated_reply : List ℕ → Option Building
truncated_reply request = built (message_wire (truncated_answer request))
