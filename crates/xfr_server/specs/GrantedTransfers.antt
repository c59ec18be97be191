-- A transfer that is granted, as a primary sends it (RFC 5936, 2.2; RFC 1995, 4; RFC 8945, 5.3).
use Rattle.std.specs.Prelude.{◌≡◌, ℕ, ◌-◌, ◌^◌, ◌≤◌, ◌<◌, Bool, true, false, List, [], ◌∷◌, length, map, Option, Some, None, IsTrue, Result, Ok}
use Rattle.std.specs.List.{AllByRecursion}
use Rattle.dns_name.specs.Names.{fold}
use Rattle.dns_rdata.specs.Records.{Record}
use Rattle.dns_wire.specs.Wire.{Message, Question, message_wire, id_in}
use Rattle.dns_wire.specs.Parse.{parsed, sole_question_in}
use Rattle.dns_wire.specs.Written.{IsMessage, IsRecord, parsed_of}
use Rattle.tsig_port.specs.Tsig.{TsigKey, mac_in, is_mac_len, compose_len, signed_answers}
use Rattle.tsig_port.specs.Checked.{taken_message}
use Rattle.tsig_port.specs.ServerCheck.{Keys, verdict}
use Rattle.tsig_port.specs.ServerCheck.Verdict.{Accepted}
use Rattle.zone_model.specs.Version.{has_one_apex_soa}
use Rattle.zone_model.specs.TransferText.{OnIxfr, is_soa}
use Rattle.xfr_model.specs.Messages.{read_of}
use Rattle.zone_model.specs.Offer.{Offer, IsCutInto, text_of}
use Rattle.xfr_model.specs.Read.{request_fault}
use Rattle.xfr_replies.specs.TransferPages.{page_answer, page_room}
use Rattle.xfr_server.specs.Items.{Sending, sent_by}
use Rattle.xfr_server.specs.Transfers.{transfer_mode, asked_serial, asks_for_apex}
use Rattle.xfr_outcomes.specs.Modes.{mode_of}
use Rattle.xfr_server.specs.SentTexts.{in_singles}
use Rattle.xfr_providers.specs.declared.providers.XfrDataProviderError.{XfrDataProviderError}
use Rattle.xfr_services.specs.declared.requests.Request.{Request}
use Rattle.xfr_services.specs.declared.requests.TransportSpecificContext.TheVariants.{NonUdp}
use Rattle.xfr_services.specs.declared.modes.XfrMode.{XfrMode}

-- a signed request for a transfer by a stream that the server accepts and the provider grants, and the pages of its answer: there is room for
-- each record; an incremental one names this serial
pub record IsGrantedTransfer {M K : Type 0} (the_key : K → TsigKey) (keys : Keys) (told : List ℕ → Option K → Option ℕ → Result Offer XfrDataProviderError) (r : Request M) (key : TsigKey) (mode : XfrMode) (serial : ℕ) (offer : Offer) : Type 0 where
  pub accepted : verdict keys r.at r.message ≡ Accepted key
  pub known : keys (fold key.name) key.algorithm ≡ Some key
  pub macs : IsTrue (is_mac_len key.algorithm key.signing_len)
  pub asks : transfer_mode (taken_message r.message) ≡ Some mode
  pub names : OnIxfr (mode_of mode) (asked_serial (taken_message r.message) ≡ Some serial)
  pub stream : r.transport ≡ NonUdp
  pub fresh : r.reserved ≡ 0
  pub granted : (k : K) → the_key k ≡ key → told (taken_message r.message) (Some k) (asked_serial (taken_message r.message)) ≡ Ok offer
  pub apex : asks_for_apex (sole_question_in (taken_message r.message)) offer.version ≡ true
  pub one_soa : has_one_apex_soa offer.version ≡ true
  pub pages : List (List Record)
  pub cut : IsCutInto (page_room (taken_message r.message) (65535 - compose_len key)) (in_singles (mode_of mode) offer.compatibility) (text_of offer (mode_of mode) serial) pages

-- what is sent is these messages, signed one after another as the answers to the request (RFC 8945, 5.3.1)
pub record IsSentInTurn {M : Type 0} (r : Request M) (key : TsigKey) (answers : List Message) (sent : Option (List Sending)) : Type 0 where
  pub items : List Sending
  pub some : sent ≡ Some items
  pub messages : sent_by items ≡ record { messages = signed_answers key (mac_in r.message) r.at 300 (map message_wire answers); fails = false }

-- .. a message for each page
abbrev pub IsSentWhole : {M : Type 0} → Request M → TsigKey → List (List Record) → Option (List Sending) → Type 0
IsSentWhole r key pages sent = IsSentInTurn r key (map (page_answer (taken_message r.message)) pages) sent

-- the law of granted transfers: a primary of these services sends that
abbrev pub SendsWhole : {M K : Type 0} → (Request M → Option (List Sending) → Type 0) → (K → TsigKey) → Keys → (List ℕ → Option K → Option ℕ → Result Offer XfrDataProviderError)
    → Request M → TsigKey → XfrMode → ℕ → Offer → Option (List Sending) → Type 0
SendsWhole Sends the_key keys told r key mode serial offer sent =
    (g : IsGrantedTransfer the_key keys told r key mode serial offer) → Sends r sent → IsSentWhole r key g.pages sent

-- ---- what a client makes of it

abbrev pub begins_with_soa : List Record → Bool
begins_with_soa [] = false
begins_with_soa (r ∷ more) = is_soa r

-- the law of texts: each begins with an SOA (RFC 5936, 2.2; RFC 1995, 4)
abbrev pub TextsBegin : Type 0
TextsBegin = (mode : XfrMode) (serial : ℕ) (offer : Offer) → has_one_apex_soa offer.version ≡ true → begins_with_soa (text_of offer (mode_of mode) serial) ≡ true

-- the law of what is taken: nothing refuses the first page's message of such a text as the first answer to a request for a transfer, nor the
-- others as later ones (RFC 5936, 2.2.1)
abbrev pub WholeIsTaken : Type 0
WholeIsTaken = (message : List ℕ) (q : Question) (mode : XfrMode) (text : List Record) (room : ℕ) (singles : Bool) (page : List Record) (more : List (List Record))
    → transfer_mode message ≡ Some mode → sole_question_in message ≡ Some q → begins_with_soa text ≡ true → IsCutInto room singles text (page ∷ more)
    → (request_fault (id_in message) q true (read_of (page_answer message page)) ≡ None)
    × AllByRecursion (λ p. request_fault (id_in message) q false (read_of (page_answer message p)) ≡ None) more

-- the law of wire forms: an answer to a request that was built, with records that have a wire form, has one
abbrev pub TransferIsMessage : Type 0
TransferIsMessage = (message : List ℕ) (asked : Message) (rs : List Record) → 12 ≤ length message → IsMessage asked → parsed message ≡ Some (parsed_of asked)
    → AllByRecursion IsRecord rs → length rs < 2 ^ 16 → IsMessage (page_answer message rs)
