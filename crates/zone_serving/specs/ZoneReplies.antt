-- What is sent from a zone to requests that aren't for a transfer (RFC 1034, 4.3.2; RFC 1035, 4.1.1).
use Rattle.std.specs.Prelude.{ℕ, ◌-◌, Bool, ◌&&◌, not, ◌==◌, List, [], Option, Some, None, option_map, unwrap_or, if◌then◌else◌}
use Rattle.dns_numbers.specs.Codes.{formerr}
use Rattle.dns_name.specs.Names.{under}
use Rattle.dns_wire.specs.Wire.{Building, Question, header_in, message_wire}
use Rattle.dns_wire.specs.Parse.{sole_question_in}
use Rattle.dns_wire.specs.Builds.{building}
use Rattle.zone_model.specs.Version.{Version}
use Rattle.zone_model.specs.Answer.{answer}
use Rattle.zone_lookup.specs.Replies.{Reply}
use Rattle.zone_lookup.specs.Sending.{reply_message}
use Rattle.zone_lookup.specs.Answers.{AnsweredBy, answered_by}
use Rattle.zone_lookup.specs.Owned.{reply_of}
use Rattle.xfr_services.specs.Items.{Sending, one_reply, all_given}
use Rattle.xfr_services.specs.Replying.{notimp, refused, error_replies}
use Rattle.xfr_services.specs.declared.requests.Request.{Request}
use Rattle.xfr_services.specs.declared.requests.TransportSpecificContext.{TransportSpecificContext}
use Rattle.xfr_services.specs.declared.requests.TransportSpecificContext.TheVariants.{Udp, NonUdp}
use Rattle.xfr_services.specs.declared.services.CallResult.{CallResult}

-- how many octets a reply may have before it is signed: 65,535 by a stream, by UDP the hint or 512 (RFC 1035, 2.3.4 and 4.2.2)
abbrev pub most_octets : TransportSpecificContext → ℕ
most_octets (Udp hint) = unwrap_or hint 512
most_octets NonUdp = 65535

abbrev pub room : TransportSpecificContext → ℕ → ℕ
room transport reserved = most_octets transport - reserved

-- whether a question is for a name of the zone, and in its class
abbrev pub is_in_zone : Version → Question → Bool
is_in_zone v q = (q.qclass == v.class) && under q.qname v.apex

-- the message that says an answer, the fullest within the limit (RFC 1035, 4.1; RFC 2181, 9)
unfoldable pub told_in : ℕ → List ℕ → Reply → Building
told_in limit request a = building (message_wire (reply_message limit request a)) limit

-- an answer of a version, with records of its own
unfoldable pub owned_of : AnsweredBy → Reply
owned_of a = reply_of a

-- what a version has for a question (RFC 1034, 4.3.2)
unfoldable pub found_in : Version → Question → AnsweredBy
found_in v q = answered_by v (answer v q.qname q.qtype)

-- the message that says it
abbrev pub zone_reply : Version → ℕ → List ℕ → Question → Building
zone_reply v limit request q = told_in limit request (owned_of (found_in v q))

-- the answer of the version, and REFUSED where the question isn't for the zone
abbrev pub replies_to_question : Version → ℕ → List ℕ → Question → Option (List CallResult)
replies_to_question v limit request q = if is_in_zone v q then Some (one_reply (zone_reply v limit request q)) else error_replies request refused

-- .. and FORMERR where there isn't one question that can be read
abbrev pub replies_to_sole : Version → ℕ → List ℕ → Option Question → Option (List CallResult)
replies_to_sole v limit request None = error_replies request formerr
replies_to_sole v limit request (Some q) = replies_to_question v limit request q

-- nothing to a response, NOTIMP for an opcode that isn't QUERY (RFC 1035, 4.1.1)
abbrev pub query_replies : Version → ℕ → List ℕ → Option (List CallResult)
query_replies v limit request =
    if (header_in request).qr then Some []
    else if not ((header_in request).opcode == 0) then error_replies request notimp
    else replies_to_sole v limit request (sole_question_in request)

-- what is sent of that
abbrev pub query_sends : {M : Type 0} → Version → Request M → Option (List Sending)
query_sends v r = option_map all_given (query_replies v (room r.transport r.reserved) r.message)
