-- What a primary sends to a signed request that it accepts (RFC 5936, 2.2; RFC 1995, 2 and 4; RFC 8945, 5.3).
use Rattle.std.specs.Prelude.{◌≡◌, ℕ, ◌+◌, ◌≤◌, ◌<◌, Bool, true, false, List, [], ◌∷◌, ◌++◌, map, min, Option, Some, None, option_map, IsTrue, Result, if◌then◌else◌}
use Rattle.std.specs.List.{list_all}
use Rattle.dns_name.specs.Names.{fold}
use Rattle.dns_numbers.specs.Codes.{servfail}
use Rattle.dns_rdata.specs.Records.{Record}
use Rattle.dns_wire.specs.Wire.{Message, message_wire, fits}
use Rattle.dns_wire.specs.Reply.{empty_answer}
use Rattle.tsig_port.specs.Tsig.{TsigKey, is_mac_len, compose_len}
use Rattle.tsig_port.specs.Checked.{taken_message}
use Rattle.tsig_port.specs.ServerCheck.{Keys, verdict}
use Rattle.tsig_port.specs.ServerCheck.Verdict.{Accepted}
use Rattle.zone_model.specs.Version.{Version}
use Rattle.zone_model.specs.Answer.{apex_soa_record}
use Rattle.zone_model.specs.Offer.{Offer, IsCutInto}
use Rattle.xfr_replies.specs.TransferPages.{page_answer, page_room, has_page, sendable}
use Rattle.xfr_server.specs.Items.{Sending, sent_by}
use Rattle.xfr_server.specs.Requests.{is_udp}
use Rattle.xfr_server.specs.Signing.{signed_items}
use Rattle.xfr_server.specs.SignedServing.{accepted_request, signer_for}
use Rattle.xfr_server.specs.Transfers.{Choice, chosen, transfer_mode, most_octets, reply_limit, SendsAnswer}
use Rattle.xfr_server.specs.Transfers.Choice.{Refuse, SoaAlone, Text}
use Rattle.xfr_server.specs.GrantedTransfers.{IsSentInTurn}
use Rattle.xfr_signing.specs.Failing.{bare_len}
use Rattle.xfr_providers.specs.declared.providers.XfrDataProviderError.{XfrDataProviderError}
use Rattle.xfr_services.specs.declared.requests.Request.{Request}
use Rattle.xfr_signing.specs.declared.signing.Signing.TheVariants.{First}
use Rattle.xfr_services.specs.declared.modes.XfrMode.{XfrMode}

-- ---- the messages, before they are signed

-- the apex SOA alone, and SERVFAIL where that has no room (RFC 1995, 2)
abbrev pub soa_answer : List ℕ → ℕ → Version → Message
soa_answer request limit v = if fits limit (message_wire (page_answer request (apex_soa_record v))) then page_answer request (apex_soa_record v) else empty_answer request servfail

-- by UDP: the whole text, and where that has no room the SOA alone (RFC 1995, 2)
abbrev pub udp_answer : List ℕ → ℕ → Version → List Record → Message
udp_answer request limit v text = if fits limit (message_wire (page_answer request text)) then page_answer request text else soa_answer request limit v

-- by a stream: the pages of the records before the first that has no room, and where there is one SERVFAIL (RFC 5936, 2.2)
pub record ArePages (request : List ℕ) (limit : ℕ) (singles : Bool) (text : List Record) (answers : List Message) : Type 0 where
  pub pages : List (List Record)
  pub cut : IsCutInto (page_room request limit) singles (sendable (page_room request limit) text) pages
  pub all : answers ≡ map (page_answer request) pages ++ (if list_all (has_page (page_room request limit)) text then [] else empty_answer request servfail ∷ [])

-- the messages of up to so many octets that tell a choice in answer to a request
abbrev pub Tell : List ℕ → ℕ → Bool → Choice → List Message → Type 0
Tell request limit udp (Refuse rcode) answers = answers ≡ empty_answer request rcode ∷ []
Tell request limit udp (SoaAlone v) answers = answers ≡ soa_answer request limit v ∷ []
Tell request limit true (Text v singles text) answers = answers ≡ udp_answer request limit v text ∷ []
Tell request limit false (Text v singles text) answers = ArePages request limit singles text answers

-- ---- .. and signed

-- a signed request that the server accepts with a key that it knows; by UDP the requestor takes no more octets than a datagram's length tells
pub record IsAccepted {M : Type 0} (keys : Keys) (r : Request M) (key : TsigKey) : Type 0 where
  pub accepted : verdict keys r.at r.message ≡ Accepted key
  pub known : keys (fold key.name) key.algorithm ≡ Some key
  pub macs : IsTrue (is_mac_len key.algorithm key.signing_len)
  pub octets : most_octets r.transport ≤ 65535

-- a service fails without a message
abbrev pub SendsNothing : Option (List Sending) → Type 0
SendsNothing None = Unit {0}
SendsNothing (Some items) = sent_by items ≡ record { messages = []; fails = true }

-- a transfer request is answered as what is chosen of the provider's offer to this key, in messages that leave room for the key's TSIG: each item of
-- that is signed in its turn; where the questions alone leave room for a TSIG, what is sent is the messages that tell the choice, and else nothing
pub record IsAnswered {M K : Type 0} (the_key : K → TsigKey) (told : List ℕ → Option K → Option ℕ → Result Offer XfrDataProviderError) (r : Request M) (key : TsigKey) (mode : XfrMode) (sent : Option (List Sending)) : Type 0 where
  pub found : K
  pub is_found : the_key found ≡ key
  pub given : Option (List Sending)
  pub answer : SendsAnswer (told (taken_message r.message) (Some found)) mode r.transport (min (r.reserved + compose_len key) 65535) (taken_message r.message) given
  pub signed : sent ≡ option_map (signed_items (signer_for r key) First None) given
  pub answers : List Message
  pub tell : Tell (taken_message r.message) (reply_limit r.transport (min (r.reserved + compose_len key) 65535)) (is_udp r.transport)
      (chosen (told (taken_message r.message) (Some found)) mode (is_udp r.transport) (taken_message r.message)) answers
  pub in_turn : bare_len (taken_message r.message) + compose_len key ≤ 65535 → IsSentInTurn r key answers sent
  pub no_room : 65535 < bare_len (taken_message r.message) + compose_len key → 65535 < bare_len r.message + compose_len key → SendsNothing sent

-- any other request is answered by the next service, which isn't told the key; its first reply is signed, and those of a transaction one after
-- another; one without room for the TSIG is replaced by its start, with TC (RFC 8945, 5.3)
pub record IsHandedOn {M K : Type 0} (Next : Request (Option K) → Option (List Sending) → Type 0) (r : Request M) (key : TsigKey) (sent : Option (List Sending)) : Type 0 where
  pub given : Option (List Sending)
  pub next : Next (accepted_request r key None) given
  pub signed : sent ≡ option_map (signed_items (signer_for r key) First None) given

-- the laws of signed requests: a primary of these services answers them so
abbrev pub TransferIsAnswered : {M K : Type 0} → (Request M → Option (List Sending) → Type 0) → (K → TsigKey) → Keys → (List ℕ → Option K → Option ℕ → Result Offer XfrDataProviderError)
    → Request M → TsigKey → XfrMode → Option (List Sending) → Type 0
TransferIsAnswered Sends the_key keys told r key mode sent =
    IsAccepted keys r key → transfer_mode (taken_message r.message) ≡ Some mode → Sends r sent → IsAnswered the_key told r key mode sent

abbrev pub OtherIsHandedOn : {M K : Type 0} → (Request M → Option (List Sending) → Type 0) → Keys → (Request (Option K) → Option (List Sending) → Type 0)
    → Request M → TsigKey → Option (List Sending) → Type 0
OtherIsHandedOn Sends keys Next r key sent =
    IsAccepted keys r key → transfer_mode (taken_message r.message) ≡ None → Sends r sent → IsHandedOn Next r key sent
