-- What a primary sends to a signed request that it accepts.
use Rattle.std.proofs.Common.{◌≡◌, ℕ, ◌+◌, ◌-◌, ◌≤◌, Bool, true, false, cond, List, [], ◌∷◌, ◌++◌, length, map, Option, Some, None, min, refl, ap, ◌∙◌, arith, subst}
use Rattle.std.specs.Prelude.{IsTrue, option_map, Result, if◌then◌else◌}
use Rattle.std.specs.Option.{option_map_or}
use Rattle.std.specs.List.{list_all}
use Rattle.dns_numbers.specs.Codes.{servfail}
use Rattle.dns_rdata.specs.Records.{Record}
use Rattle.dns_wire.specs.Wire.{Building, Message, message_wire, fits}
use Rattle.dns_wire.specs.Reply.{empty_answer}
use Rattle.tsig_port.specs.Tsig.{TsigKey, is_mac_len, compose_len, signed_from}
use Rattle.tsig_port.specs.Checked.{taken_message}
use Rattle.tsig_port.specs.ServerCheck.{Keys, Verdict}
use Rattle.zone_model.specs.Version.{Version}
use Rattle.zone_model.specs.Answer.{apex_soa_record}
use Rattle.zone_model.specs.Offer.{Offer}
use Rattle.xfr_replies.specs.TransferPages.{page_answer, page_message, page_room, has_page}
use Rattle.xfr_replies.specs.PagedReplies.{page_sent, servfail_sent, end_sent}
use Rattle.xfr_replies.specs.PulledStreams.{SendsText}
use Rattle.xfr_server.specs.Items.{Sending, sent_by, reply_item, feedback_item}
use Rattle.xfr_server.specs.Items.Sending.{Given, Failed}
use Rattle.xfr_server.specs.Replying.{error_reply}
use Rattle.xfr_server.specs.Transfers.{Choice, chosen, is_udp, most_octets, reply_limit, soa_reply, udp_reply, sent_once, SendsAnswer, SendsChoice}
use Rattle.xfr_server.specs.Transfers.Choice.{Refuse, SoaAlone, Text}
use Rattle.xfr_server.specs.Signing.{can_be_signed, signed_items}
use Rattle.xfr_server.specs.Serving.{SendsIn, SendsTransfer}
use Rattle.xfr_server.specs.SignedServing.{SendsBy, SendsSigned, accepted_request, signer_for, SendsChecked}
use Rattle.xfr_server.specs.GrantedTransfers.{IsSentInTurn}
use Rattle.xfr_server.specs.SignedAnswers.{soa_answer, udp_answer, Tell, IsAccepted, TransferIsAnswered, OtherIsHandedOn}
use Rattle.xfr_signing.specs.Failing.{bare_len}
use Rattle.xfr_providers.specs.declared.providers.XfrDataProviderError.{XfrDataProviderError}
use Rattle.xfr_services.specs.declared.requests.Request.{Request}
use Rattle.xfr_services.specs.declared.services.ServiceFeedback.TheVariants.{BeginTransaction, EndTransaction}
use Rattle.xfr_signing.specs.declared.signing.Signing.TheVariants.{First, All}
use Rattle.xfr_services.specs.declared.modes.XfrMode.{XfrMode}
use Rattle.xfr_server.proofs.OutOfRoom.{chosen_begins, choice_fails}
use Rattle.xfr_server.proofs.Pages.{each_page}
use Rattle.xfr_server.proofs.GrantedTransfers.{found_key}
use Rattle.xfr_server.proofs.SignedPages.{fits_whole, can_sign, can_sign_page, first_signed, last_signed, EndsWith, pages_signed}

-- ---- each message has room for its signature

limit_small : (most reserved n : ℕ) → most ≤ 65535 → most - min (reserved + n) 65535 ≤ 65535 - n
limit_small most reserved n few = omega (arith, few)

bare_length : (request : List ℕ) (rcode : ℕ) → length (message_wire (empty_answer request rcode)) ≡ bare_len request
bare_length request rcode = refl

bare_header : (request : List ℕ) (rcode : ℕ) → 12 ≤ length (message_wire (empty_answer request rcode))
bare_header request rcode = omega arith

module _ {M : Type 0} (r : Request M) (key : TsigKey) (sent given : Option (List Sending)) (signed : sent ≡ option_map (signed_items (signer_for r key) First None) given)
    (macs : IsTrue (is_mac_len key.algorithm key.signing_len)) (room : bare_len (taken_message r.message) + compose_len key ≤ 65535) (limit : ℕ) (small : limit ≤ 65535 - compose_len key) where
  abbrev message : List ℕ
  message = taken_message r.message

  -- a message without records
  bare_signed : (rcode : ℕ) (prior : Option (List ℕ)) → can_be_signed (signer_for r key) prior (message_wire (empty_answer message rcode)) ≡ true
  bare_signed rcode prior =
      let m = message_wire (empty_answer message rcode) in
      can_sign (signer_for r key) prior m macs (bare_header message rcode) refl (omega (arith, bare_length message rcode, room))

  paged_signed : (page : List Record) (prior : Option (List ℕ)) → fits limit (message_wire (page_answer message page)) ≡ true
      → can_be_signed (signer_for r key) prior (message_wire (page_answer message page)) ≡ true
  paged_signed page prior fit = can_sign_page (signer_for r key) prior message limit page macs small fit

  -- ---- one message

  -- this message is a reply, and can be signed
  abbrev Stands : Message → Option Building → Type 0
  Stands answer reply = (most : ℕ) × ((reply ≡ Some (record { octets = message_wire answer; limit = most })) × (can_be_signed (signer_for r key) None (message_wire answer) ≡ true))

  error_stands : (rcode : ℕ) → Stands (empty_answer message rcode) (error_reply message rcode)
  error_stands rcode =
      let m = message_wire (empty_answer message rcode) in
      let fit : fits 65535 m ≡ true = fits_whole m (omega (arith, bare_length message rcode, room)) in
      (65535, (rw fit refl, bare_signed rcode None))

  either_stands : (page : List Record) (answer : Message) (other : Option Building) (fit : Bool) → fits limit (message_wire (page_answer message page)) ≡ fit → Stands answer other
      → Stands (cond fit (page_answer message page) answer) (cond fit (Some (page_message message limit page)) other)
  either_stands page answer other true is stands = (limit, (refl, paged_signed page None is))
  either_stands page answer other false is stands = stands

  soa_stands : (v : Version) → Stands (soa_answer message limit v) (soa_reply message limit v)
  soa_stands v =
      either_stands (apex_soa_record v) (empty_answer message servfail) (error_reply message servfail) (fits limit (message_wire (page_answer message (apex_soa_record v)))) refl (error_stands servfail)

  udp_stands : (v : Version) (text : List Record) → Stands (udp_answer message limit v text) (udp_reply message limit v text)
  udp_stands v text = either_stands text (soa_answer message limit v) (soa_reply message limit v) (fits limit (message_wire (page_answer message text))) refl (soa_stands v)

  one_answer : (answer : Message) (reply : Option Building) → Stands answer reply → given ≡ sent_once reply → IsSentInTurn r key (answer ∷ []) sent
  one_answer answer reply stands is = record {
    items = signed_items (signer_for r key) First None (Given (reply_item (record { octets = message_wire answer; limit = stands.0 })) ∷ []);
    some = signed ∙ ap (option_map (signed_items (signer_for r key) First None)) (is ∙ ap sent_once stands.1.0);
    messages = first_signed (signer_for r key) answer stands.0 stands.1.1;
  }

  -- ---- a text by a stream

  end_by : (fit : Bool) → EndsWith (signer_for r key) (if fit then Given (feedback_item EndTransaction) else servfail_sent message) (if fit then [] else empty_answer message servfail ∷ [])
  unfolding signed_from
  end_by true prior = refl
  end_by false prior =
      ap (λ o. sent_by (signed_items (signer_for r key) All prior (option_map_or (λ reply. Given (reply_item reply)) o Failed ∷ []))) (error_stands servfail).1.0
      ∙ last_signed (signer_for r key) (empty_answer message servfail) (error_stands servfail).0 prior (bare_signed servfail prior)

  text_sent : (singles : Bool) (text : List Record) (sends : SendsText message limit singles text given)
      → IsSentInTurn r key (map (page_answer message) sends.2.2.pages ++ (if list_all (has_page (page_room message limit)) text then [] else empty_answer message servfail ∷ [])) sent
  text_sent singles text sends =
      let rest = sends.2.2 in
      let fit = list_all (has_page (page_room message limit)) text in
      let items : List Sending = Given (feedback_item BeginTransaction) ∷ (map (page_sent message limit) rest.pages ++ end_sent message limit text ∷ []) in
      let each = each_page (page_room message limit) singles rest.pages rest.cut.filled in
      record {
        items = signed_items (signer_for r key) First None items;
        some = signed ∙ ap (option_map (signed_items (signer_for r key) First None))
            (sends.1 ∙ ap Some (sends.2.1 ∙ ap (λ xs. Given (feedback_item BeginTransaction) ∷ xs) rest.sent));
        messages = pages_signed (signer_for r key) message limit (end_sent message limit text) (if fit then [] else empty_answer message servfail ∷ []) macs small (end_by fit) rest.pages None each;
      }

-- ---- each choice

module _ {M : Type 0} (r : Request M) (key : TsigKey) (sent given : Option (List Sending)) (signed : sent ≡ option_map (signed_items (signer_for r key) First None) given)
    (macs : IsTrue (is_mac_len key.algorithm key.signing_len)) (limit : ℕ) (small : limit ≤ 65535 - compose_len key) where
  abbrev request : List ℕ
  request = taken_message r.message

  -- the messages that tell it, which are sent where there is room for a signature
  abbrev Told : Bool → Choice → Type 0
  Told udp choice = (answers : List Message) × (Tell request limit udp choice answers × (bare_len request + compose_len key ≤ 65535 → IsSentInTurn r key answers sent))

  choice_told : (udp : Bool) (choice : Choice) → SendsChoice request limit udp choice given → Told udp choice
  choice_told udp (Refuse rcode) sends = (
    empty_answer request rcode ∷ [],
    (
      refl,
      λ room. one_answer r key sent given signed macs room limit small (empty_answer request rcode) (error_reply request rcode)
          (error_stands r key sent given signed macs room limit small rcode) sends,
    ),
  )
  choice_told udp (SoaAlone v) sends = (
    soa_answer request limit v ∷ [],
    (
      refl,
      λ room. one_answer r key sent given signed macs room limit small (soa_answer request limit v) (soa_reply request limit v)
          (soa_stands r key sent given signed macs room limit small v) sends,
    ),
  )
  choice_told true (Text v singles text) sends = (
    udp_answer request limit v text ∷ [],
    (
      refl,
      λ room. one_answer r key sent given signed macs room limit small (udp_answer request limit v text) (udp_reply request limit v text)
          (udp_stands r key sent given signed macs room limit small v text) sends,
    ),
  )
  choice_told false (Text v singles text) sends = (
    map (page_answer request) sends.2.2.pages ++ (if list_all (has_page (page_room request limit)) text then [] else empty_answer request servfail ∷ []),
    (
      record { pages = sends.2.2.pages; cut = sends.2.2.cut; all = refl },
      λ room. text_sent r key sent given signed macs room limit small singles text sends,
    ),
  )

-- ---- the laws

module _ {M K : Type 0} (IsDefault : Option K → Type 0) (the_key : K → TsigKey) (keys : Keys) (Next : Request (Option K) → Option (List Sending) → Type 0)
    (told : List ℕ → Option K → Option ℕ → Result Offer XfrDataProviderError) (r : Request M) (key : TsigKey) where
  -- what the services behind the one that signs send
  handed : (sent : Option (List Sending)) → IsAccepted keys r key → SendsChecked the_key keys (SendsTransfer IsDefault Next told) r sent → SendsSigned the_key keys (SendsTransfer IsDefault Next told) r key sent
  handed sent a sends =
      let P : Verdict → Type 0 = λ v. SendsBy the_key keys (SendsTransfer IsDefault Next told) r sent v in
      subst P a.accepted sends

  pub transfer_answered : (mode : XfrMode) (sent : Option (List Sending)) → TransferIsAnswered (SendsChecked the_key keys (SendsTransfer IsDefault Next told)) the_key keys told r key mode sent
  transfer_answered mode sent a asks sends =
      let request = taken_message r.message in
      let reserved = min (r.reserved + compose_len key) 65535 in
      let by_key = handed sent a sends in
      let found = found_key the_key by_key.known key (by_key.is_known ∙ a.known) in
      let P : Option XfrMode → Type 0 = λ o. SendsIn IsDefault Next told (accepted_request r key by_key.known) by_key.given o in
      let own : SendsAnswer (told request by_key.known) mode r.transport reserved request by_key.given = subst P asks by_key.next in
      let Q : Option K → Type 0 = λ o. SendsAnswer (told request o) mode r.transport reserved request by_key.given in
      let answer = subst Q found.1.0 own in
      let limit = reply_limit r.transport reserved in
      let small : limit ≤ 65535 - compose_len key = limit_small (most_octets r.transport) r.reserved (compose_len key) a.octets in
      let choice : Choice = chosen (told request (Some found.0)) mode (is_udp r.transport) request in
      let made = choice_told r key sent by_key.given by_key.signed a.macs limit small (is_udp r.transport) choice answer in
      record {
        found = found.0;
        is_found = found.1.1;
        given = by_key.given;
        answer = answer;
        signed = by_key.signed;
        answers = made.0;
        tell = made.1.0;
        in_turn = made.1.1;
        no_room = λ long received.
            choice_fails r key sent by_key.given by_key.signed a.macs limit small long received (is_udp r.transport) choice (chosen_begins (told request (Some found.0)) mode (is_udp r.transport) request) answer;
      }

  pub other_handed : ((m : Option K) → IsDefault m → m ≡ None) → (sent : Option (List Sending)) → OtherIsHandedOn (SendsChecked the_key keys (SendsTransfer IsDefault Next told)) keys Next r key sent
  other_handed none sent a asks sends =
      let by_key = handed sent a sends in
      let P : Option XfrMode → Type 0 = λ o. SendsIn IsDefault Next told (accepted_request r key by_key.known) by_key.given o in
      let own = subst P asks by_key.next in
      let Q : Option K → Type 0 = λ o. Next (accepted_request r key o) by_key.given in
      record { given = by_key.given; next = subst Q (none own.metadata own.default) own.next; signed = by_key.signed }
