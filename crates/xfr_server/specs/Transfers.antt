-- What is sent in answer to a transfer request (RFC 5936, 2.2; RFC 1995, 2 and 4).
use Rattle.std.specs.Prelude.{◌≡◌, ℕ, ◌-◌, Bool, true, false, ◌&&◌, ◌||◌, not, ◌==◌, List, [], ◌∷◌, length, Option, Some, None, is_some, option_map, option_and_then, unwrap_or, Result, Ok, Err, if◌then◌else◌}
use Rattle.std.specs.List.{list_all}
use Rattle.dns_name.specs.Names.{same_name}
use Rattle.dns_numbers.specs.Serial.{serial_upto}
use Rattle.dns_numbers.specs.Codes.{formerr, servfail, notauth, type_soa}
use Rattle.dns_rdata.specs.Heads.{RawRecord, readable}
use Rattle.dns_rdata.specs.Records.{Record}
use Rattle.dns_rdata.specs.Soa.{serial_of}
use Rattle.dns_wire.specs.Wire.{Building, Question, header_in, message_wire, fits}
use Rattle.dns_wire.specs.Parse.{sole_question_in, authority_readings}
use Rattle.zone_model.specs.Version.{Version, has_one_apex_soa}
use Rattle.zone_model.specs.Answer.{apex_soa_record}
use Rattle.zone_model.specs.Difference.{zone_serial}
use Rattle.zone_model.specs.Offer.{Offer, is_sendable, whole_text, changes_text}
use Rattle.xfr_server.specs.Items.{Sending, one_reply, all_given}
pub use Rattle.xfr_server.specs.Requests.{is_udp}
use Rattle.xfr_server.specs.Replying.{notimp, refused, error_reply}
use Rattle.xfr_replies.specs.TransferPages.{page_answer, page_message}
use Rattle.xfr_replies.specs.PulledStreams.{SendsText}
use Rattle.xfr_services.specs.declared.requests.TransportSpecificContext.{TransportSpecificContext}
use Rattle.xfr_services.specs.declared.requests.TransportSpecificContext.TheVariants.{Udp, NonUdp}
use Rattle.xfr_providers.specs.declared.providers.XfrDataProviderError.{XfrDataProviderError}
use Rattle.xfr_providers.specs.declared.providers.XfrDataProviderError.TheVariants.{ParseError, UnknownZone, Refused, TemporarilyUnavailable, Memory}
use Rattle.xfr_services.specs.declared.modes.XfrMode.{XfrMode}
pub use Rattle.xfr_services.specs.Modes.{mode_of_type, is_ixfr}

-- ---- the request

-- the kind that a request asks for: a query with a sole readable question of such a type
abbrev pub transfer_mode : List ℕ → Option XfrMode
transfer_mode message =
    if (header_in message).qr || not ((header_in message).opcode == 0) then None
    else option_and_then (λ (q : Question). mode_of_type q.qtype) (sole_question_in message)

-- the serial of the first SOA record, None where that is missing or unreadable (RFC 1995, 3)
abbrev pub first_serial : List ℕ → List (Option RawRecord) → Option ℕ
first_serial message [] = None
first_serial message (None ∷ more) = None
first_serial message (Some raw ∷ more) = if raw.rtype == type_soa then option_map (λ r. serial_of r.fields) (readable message raw) else first_serial message more

abbrev pub asked_serial : List ℕ → Option ℕ
asked_serial message = first_serial message (authority_readings message)

-- whether a question is for a version's apex
abbrev pub asks_for_apex : Option Question → Version → Bool
asks_for_apex None v = false
asks_for_apex (Some q) v = same_name v.apex q.qname

-- whether a version is no news to one who has the serial (RFC 1995, 2)
abbrev pub is_caught_up : Version → Option ℕ → Bool
is_caught_up v None = false
is_caught_up v (Some n) = serial_upto (zone_serial v) n

-- how many octets a reply may have before it is signed: 65,535 by a stream, by UDP the hint or 512 (RFC 1035, 2.3.4 and 4.2.2)
abbrev pub most_octets : TransportSpecificContext → ℕ
most_octets (Udp hint) = unwrap_or hint 512
most_octets NonUdp = 65535

abbrev pub reply_limit : TransportSpecificContext → ℕ → ℕ
reply_limit transport reserved = most_octets transport - reserved

-- ---- the choice

-- an rcode, the apex SOA of a version alone, or a text that tells of a version, in messages of one record each or not
pub data Choice : Type 0 where
  Refuse : ℕ → Choice
  SoaAlone : Version → Choice
  Text : Version → Bool → List Record → Choice

-- the rcode that tells why a provider gives nothing (RFC 5936, 2.2.1)
abbrev pub rcode_of : XfrDataProviderError → ℕ
rcode_of ParseError = formerr
rcode_of UnknownZone = notauth
rcode_of Refused = refused
rcode_of TemporarilyUnavailable = servfail
rcode_of Memory = servfail

-- whether an offer's differences can be sent: there are some, and each has the two SOA records that a text of changes wants (RFC 1995, 4)
abbrev pub has_changes : Offer → Bool
has_changes offer = not (length offer.differences == 0) && list_all (is_sendable offer.version) offer.differences

-- the differences, or else the whole text, in messages of one record each where the provider wants that (RFC 5936, 7): but not to one who asked for
-- differences, who takes an SOA alone for a request to ask again (RFC 1995, 2 and 4)
abbrev pub text_of_offer : Bool → Bool → Offer → Choice
text_of_offer ixfr true offer = Text offer.version false (changes_text offer.version offer.differences)
text_of_offer ixfr false offer = Text offer.version (if ixfr then false else offer.compatibility) (whole_text offer.version)

-- what is sent of what the provider offers: SERVFAIL for a name that isn't the apex, NOTIMP for AXFR by UDP, SERVFAIL
-- without exactly one apex SOA, the SOA to one who has caught up, else a text
abbrev pub choice_of : XfrMode → Bool → Option Question → Option ℕ → Offer → Choice
choice_of mode udp question asked offer =
    if not (asks_for_apex question offer.version) then Refuse servfail
    else if not (is_ixfr mode) && udp then Refuse notimp
    else if not (has_one_apex_soa offer.version) then Refuse servfail
    else if is_ixfr mode && is_caught_up offer.version asked then SoaAlone offer.version
    else text_of_offer (is_ixfr mode) (is_ixfr mode && has_changes offer) offer

abbrev pub choice_by : XfrMode → Bool → Option Question → Option ℕ → Result Offer XfrDataProviderError → Choice
choice_by mode udp question asked (Err e) = Refuse (rcode_of e)
choice_by mode udp question asked (Ok offer) = choice_of mode udp question asked offer

-- the first rule that applies; an incremental request without a readable SOA record is a FORMERR (RFC 1995, 3)
abbrev pub chosen : (Option ℕ → Result Offer XfrDataProviderError) → XfrMode → Bool → List ℕ → Choice
chosen told mode udp message =
    if is_ixfr mode && not (is_some (asked_serial message)) then Refuse formerr
    else choice_by mode udp (sole_question_in message) (asked_serial message) (told (asked_serial message))

-- ---- the replies

-- the message with the apex SOA alone (RFC 1995, 2); SERVFAIL where it doesn't fit
abbrev pub soa_reply : List ℕ → ℕ → Version → Option Building
soa_reply request limit v = if fits limit (message_wire (page_answer request (apex_soa_record v))) then Some (page_message request limit (apex_soa_record v)) else error_reply request servfail

-- by UDP: the message with a whole text, and where that doesn't fit the SOA alone, which has the requestor ask again by a stream (RFC 1995, 2)
abbrev pub udp_reply : List ℕ → ℕ → Version → List Record → Option Building
udp_reply request limit v text = if fits limit (message_wire (page_answer request text)) then Some (page_message request limit text) else soa_reply request limit v

-- one reply, without feedback
abbrev pub sent_once : Option Building → Option (List Sending)
sent_once reply = option_map all_given (option_map one_reply reply)

-- a text by UDP, or by a stream: there in as many messages as it needs, with feedback (RFC 5936, 2.2)
abbrev pub SendsTextBy : Bool → List ℕ → ℕ → Version → Bool → List Record → Option (List Sending) → Type 0
SendsTextBy true request limit v singles text sent = sent ≡ sent_once (udp_reply request limit v text)
SendsTextBy false request limit v singles text sent = SendsText request limit singles text sent

-- what is sent of a choice in answer to a request, in messages of up to so many octets
abbrev pub SendsChoice : List ℕ → ℕ → Bool → Choice → Option (List Sending) → Type 0
SendsChoice request limit udp (Refuse rcode) sent = sent ≡ sent_once (error_reply request rcode)
SendsChoice request limit udp (SoaAlone v) sent = sent ≡ sent_once (soa_reply request limit v)
SendsChoice request limit udp (Text v singles text) sent = SendsTextBy udp request limit v singles text sent

-- what is sent in answer to a transfer request of this kind, where a provider tells that of a serial
abbrev pub SendsAnswer : (Option ℕ → Result Offer XfrDataProviderError) → XfrMode → TransportSpecificContext → ℕ → List ℕ → Option (List Sending) → Type 0
SendsAnswer told mode transport reserved message sent =
    SendsChoice message (reply_limit transport reserved) (is_udp transport) (chosen told mode (is_udp transport) message) sent
