-- Where the questions of a signed transfer request leave no room for a signature.
use Rattle.std.proofs.Common.{◌≡◌, ℕ, ◌+◌, ◌-◌, ◌≤◌, ◌<◌, Bool, true, false, ◌&&◌, not, cond, List, [], ◌∷◌, ◌++◌, length, map, Option, Some, None, min, refl, sym, ap, ◌∙◌, arith, subst}
use Rattle.std.specs.Prelude.{IsTrue, ◌==◌, nat_le, is_some, option_map, Result, Ok, Err, if◌then◌else◌}
use Rattle.std.specs.Option.{option_map_or}
use Rattle.std.specs.List.{list_all}
use Rattle.std.proofs.lemmas.Bool.Decides.{nat_tests}
use Rattle.dns_numbers.specs.Codes.{formerr, servfail}
use Rattle.dns_rdata.specs.Records.{Record, record_wire}
use Rattle.dns_wire.specs.Wire.{Building, Question, message_wire, header_in, arcount_in, fits}
use Rattle.dns_wire.specs.Parse.{sole_question_in, questions_in}
use Rattle.dns_wire.specs.Reply.{empty_answer}
use Rattle.tsig_port.specs.Tsig.{TsigKey, is_mac_len, compose_len}
use Rattle.tsig_port.specs.Checked.{taken_message}
use Rattle.zone_model.specs.Version.{Version, has_one_apex_soa}
use Rattle.zone_model.specs.Answer.{apex_soa_record}
use Rattle.zone_model.specs.Offer.{Offer, IsCutInto}
use Rattle.xfr_batch.specs.XfrBatches.{axfr_header}
use Rattle.xfr_replies.specs.TransferPages.{page_answer, page_message, page_room, has_page, sendable}
use Rattle.xfr_replies.specs.PagedReplies.{page_sent, servfail_sent, end_sent}
use Rattle.xfr_replies.specs.PulledStreams.{SendsText}
use Rattle.xfr_replies.proofs.Cutting.{no_pages, sendable_none}
use Rattle.xfr_server.specs.Items.{Sending, sent_by, reply_item, feedback_item}
use Rattle.xfr_server.specs.Items.Sending.{Given, Failed}
use Rattle.xfr_server.specs.Replying.{notimp, error_reply}
use Rattle.xfr_server.specs.Transfers.{Choice, chosen, choice_of, choice_by, text_of_offer, has_changes, is_ixfr, is_caught_up, asks_for_apex, asked_serial, soa_reply, udp_reply, sent_once, SendsChoice}
use Rattle.xfr_server.specs.Transfers.Choice.{Refuse, SoaAlone, Text}
use Rattle.xfr_server.specs.Signing.{can_be_signed, signed_reply, signed_step, short_reply, short_to_sign, to_sign, signed_items}
use Rattle.xfr_server.specs.SignedServing.{signer_for}
use Rattle.xfr_server.specs.GrantedTransfers.{begins_with_soa}
use Rattle.xfr_server.specs.SignedAnswers.{SendsNothing}
use Rattle.xfr_signing.specs.Failing.{bare_len}
use Rattle.xfr_providers.specs.declared.providers.XfrDataProviderError.{XfrDataProviderError}
use Rattle.xfr_services.specs.declared.requests.Request.{Request}
use Rattle.xfr_services.specs.declared.services.ServiceFeedback.TheVariants.{BeginTransaction, EndTransaction}
use Rattle.xfr_signing.specs.declared.signing.Signing.TheVariants.{First, All}
use Rattle.xfr_services.specs.declared.modes.XfrMode.{XfrMode}
use Rattle.xfr_server.proofs.Answers.{wire_length, record_long}
use Rattle.xfr_server.proofs.Room.{signed_length}
use Rattle.xfr_server.proofs.SentTexts.{whole_begins, changes_begin}

-- ---- a text that is chosen has a record

abbrev pub Begins : Choice → Type 0
Begins (Refuse rcode) = Unit {0}
Begins (SoaAlone v) = Unit {0}
Begins (Text v singles text) = begins_with_soa text ≡ true

either_begins : (test : Bool) (x y : Choice) → Begins x → Begins y → Begins (cond test x y)
either_begins true x y first second = first
either_begins false x y first second = second

text_begins : (ixfr changes : Bool) (offer : Offer) → has_one_apex_soa offer.version ≡ true → Begins (text_of_offer ixfr changes offer)
text_begins ixfr true offer one = changes_begin offer.version offer.differences one
text_begins ixfr false offer one = whole_begins offer.version one

one_begins : (one ixfr caught_up changes : Bool) (offer : Offer) → has_one_apex_soa offer.version ≡ one
    → Begins (cond (not one) (Refuse servfail) (cond caught_up (SoaAlone offer.version) (text_of_offer ixfr changes offer)))
one_begins true ixfr caught_up changes offer is =
    either_begins caught_up (SoaAlone offer.version) (text_of_offer ixfr changes offer) tt (text_begins ixfr changes offer is)
one_begins false ixfr caught_up changes offer is = tt

choice_begins : (mode : XfrMode) (udp : Bool) (question : Option Question) (asked : Option ℕ) (offer : Offer) → Begins (choice_of mode udp question asked offer)
choice_begins mode udp question asked offer =
    either_begins (not (asks_for_apex question offer.version)) (Refuse servfail) _ tt
    (either_begins (not (is_ixfr mode) && udp) (Refuse notimp) _ tt
    (one_begins (has_one_apex_soa offer.version) (is_ixfr mode) (is_ixfr mode && is_caught_up offer.version asked) (is_ixfr mode && has_changes offer) offer refl))

found_begins : (mode : XfrMode) (udp : Bool) (question : Option Question) (asked : Option ℕ) (found : Result Offer XfrDataProviderError) → Begins (choice_by mode udp question asked found)
found_begins mode udp question asked (Err e) = tt
found_begins mode udp question asked (Ok offer) = choice_begins mode udp question asked offer

pub chosen_begins : (told : Option ℕ → Result Offer XfrDataProviderError) (mode : XfrMode) (udp : Bool) (message : List ℕ) → Begins (chosen told mode udp message)
chosen_begins told mode udp message =
    either_begins (is_ixfr mode && not (is_some (asked_serial message))) (Refuse formerr) _ tt
    (found_begins mode udp (sole_question_in message) (asked_serial message) (told (asked_serial message)))

-- ---- numbers

not_fit : (octets : List ℕ) → 65535 < length octets → fits 65535 octets ≡ false
not_fit octets long = grind (arith, nat_tests)

too_small : (long bare limit n : ℕ) → bare ≤ long → 12 ≤ bare → limit ≤ 65535 - n → 65535 < bare + n → nat_le long (min limit 65535) ≡ false
too_small long bare limit n more header small most = grind (arith, nat_tests)

no_room_left : (long bare limit n : ℕ) → 10 ≤ long → 12 ≤ bare → limit ≤ 65535 - n → 65535 < bare + n → nat_le long (min limit 65535 - bare) ≡ false
no_room_left long bare limit n some header small most = grind (arith, nat_tests)

none_by : (fit : Bool) (octets : List ℕ) → ◌≡◌ {A = Option (List ℕ)} (cond (fit && false) (Some octets) None) None
none_by true octets = refl
none_by false octets = refl

built_octets : (octets : List ℕ) (fit : Bool) (reply : Building) → ◌≡◌ {A = Option Building} (cond fit (Some (record { octets = octets; limit = 65535 })) None) (Some reply) → reply.octets ≡ octets
built_octets octets true reply is = ap (λ (o : Option Building). option_map_or (λ b. b.octets) o octets) (sym is)
built_octets octets false reply is = cc

-- ---- what is sent

module _ {M : Type 0} (r : Request M) (key : TsigKey) (sent given : Option (List Sending)) (signed : sent ≡ option_map (signed_items (signer_for r key) First None) given)
    (macs : IsTrue (is_mac_len key.algorithm key.signing_len)) (limit : ℕ) (small : limit ≤ 65535 - compose_len key)
    (long : 65535 < bare_len (taken_message r.message) + compose_len key) (received : 65535 < bare_len r.message + compose_len key) where
  abbrev request : List ℕ
  request = taken_message r.message

  bare_header : 12 ≤ bare_len request
  bare_header = omega arith

  -- ---- nothing can be signed

  cannot : (prior : Option (List ℕ)) (m : List ℕ) → 12 ≤ length m → 65535 < length m + compose_len key → can_be_signed (signer_for r key) prior m ≡ false
  cannot prior m header most =
      let grown = signed_length key (signer_for r key).request_mac prior m r.at 300 macs header in
      ap (λ b. b && not (arcount_in m == 65535)) (not_fit (signed_reply (signer_for r key) prior m) (omega (arith, grown, most)))

  short_length : length (short_reply (signer_for r key)) ≡ bare_len r.message
  short_length = refl

  short_cannot : (prior : Option (List ℕ)) → can_be_signed (signer_for r key) prior (short_reply (signer_for r key)) ≡ false
  short_cannot prior = cannot prior (short_reply (signer_for r key)) (omega arith) (omega (arith, short_length, received))

  none_to_sign : (prior : Option (List ℕ)) (m : List ℕ) → can_be_signed (signer_for r key) prior m ≡ false → to_sign (signer_for r key) prior m ≡ None
  none_to_sign prior m can =
      let s = signer_for r key in
      ap (λ b. cond b (Some m) (short_to_sign s prior)) can ∙ ap (λ b. cond (fits 65535 (short_reply s) && b) (Some (short_reply s)) None) (short_cannot prior)
      ∙ none_by (fits 65535 (short_reply s)) (short_reply s)

  bare_cannot : (rcode : ℕ) (prior : Option (List ℕ)) → to_sign (signer_for r key) prior (message_wire (empty_answer request rcode)) ≡ None
  bare_cannot rcode prior =
      let m = message_wire (empty_answer request rcode) in
      let same : length m ≡ bare_len request = refl in
      none_to_sign prior m (cannot prior m (omega arith) (omega (arith, same, long)))

  -- ---- one message

  first_fails : (reply : Building) → to_sign (signer_for r key) None reply.octets ≡ None
      → sent_by (signed_items (signer_for r key) First None (Given (reply_item reply) ∷ [])) ≡ record { messages = []; fails = true }
  first_fails reply none = ap (λ o. sent_by ((signed_step (signer_for r key) First None None o).sending ∷ [])) none

  last_fails : (reply : Building) → to_sign (signer_for r key) None reply.octets ≡ None
      → sent_by (signed_items (signer_for r key) All None (Given (reply_item reply) ∷ [])) ≡ record { messages = []; fails = true }
  last_fails reply none = ap (λ o. sent_by ((signed_step (signer_for r key) All None None o).sending ∷ [])) none

  one_fails : (reply : Option Building) → ((b : Building) → reply ≡ Some b → to_sign (signer_for r key) None b.octets ≡ None) → given ≡ sent_once reply → SendsNothing sent
  one_fails None each is = subst SendsNothing (sym (signed ∙ ap (option_map (signed_items (signer_for r key) First None)) is)) tt
  one_fails (Some b) each is =
      subst SendsNothing (sym (signed ∙ ap (option_map (signed_items (signer_for r key) First None)) is)) (first_fails b (each b refl))

  error_none : (rcode : ℕ) (b : Building) → error_reply request rcode ≡ Some b → to_sign (signer_for r key) None b.octets ≡ None
  error_none rcode b is =
      let m = message_wire (empty_answer request rcode) in
      ap (to_sign (signer_for r key) None) (built_octets m (fits 65535 m) b is) ∙ bare_cannot rcode None

  error_fails : (rcode : ℕ) → given ≡ sent_once (error_reply request rcode) → SendsNothing sent
  error_fails rcode is = one_fails (error_reply request rcode) (error_none rcode) is

  no_fit : (page : List Record) → fits limit (message_wire (page_answer request page)) ≡ false
  no_fit page =
      let base : length (message_wire (page_answer request [])) ≡ bare_len request = refl in
      let h = axfr_header (header_in request) in
      let more : bare_len request ≤ length (message_wire (page_answer request page)) = omega (arith, base, wire_length h (questions_in request) page, wire_length h (questions_in request) []) in
      too_small (length (message_wire (page_answer request page))) (bare_len request) limit (compose_len key) more bare_header small long

  soa_fails : (v : Version) → given ≡ sent_once (soa_reply request limit v) → SendsNothing sent
  soa_fails v is =
      error_fails servfail (is ∙ ap (λ b. sent_once (cond b (Some (page_message request limit (apex_soa_record v))) (error_reply request servfail))) (no_fit (apex_soa_record v)))

  udp_fails : (v : Version) (text : List Record) → given ≡ sent_once (udp_reply request limit v text) → SendsNothing sent
  udp_fails v text is = soa_fails v (is ∙ ap (λ b. sent_once (cond b (Some (page_message request limit text)) (soa_reply request limit v))) (no_fit text))

  -- ---- a text by a stream

  no_page : (x : Record) → has_page (page_room request limit) x ≡ false
  no_page x =
      let base : length (message_wire (page_answer request [])) ≡ bare_len request = refl in
      no_room_left (length (record_wire x)) (bare_len request) limit (compose_len key) (record_long x) bare_header small long

  servfail_by : (reply : Option Building) → error_reply request servfail ≡ reply
      → sent_by (signed_items (signer_for r key) First None (Given (feedback_item BeginTransaction) ∷ option_map_or (λ b. Given (reply_item b)) reply Failed ∷ [])) ≡ record { messages = []; fails = true }
  servfail_by None is = refl
  servfail_by (Some b) is = last_fails b (error_none servfail b is)

  text_fails : (singles : Bool) (text : List Record) → begins_with_soa text ≡ true → SendsText request limit singles text given → SendsNothing sent
  text_fails singles [] begins sends = cc
  text_fails singles (x ∷ more) begins sends =
      let room = page_room request limit in
      let rest = sends.2.2 in
      let none : sendable room (x ∷ more) ≡ [] = sendable_none room x more (no_page x) in
      let pages : rest.pages ≡ [] = no_pages room singles rest.pages (subst (λ t. IsCutInto room singles t rest.pages) none rest.cut) in
      let fit : list_all (has_page room) (x ∷ more) ≡ false = ap (λ b. b && list_all (has_page room) more) (no_page x) in
      let items : given ≡ Some (Given (feedback_item BeginTransaction) ∷ servfail_sent request ∷ []) =
      sends.1 ∙ ap Some (sends.2.1 ∙ ap (λ xs. Given (feedback_item BeginTransaction) ∷ xs)
      (rest.sent ∙ ap (λ ps. map (page_sent request limit) ps ++ end_sent request limit (x ∷ more) ∷ []) pages
      ∙ ap (λ b. (if b then Given (feedback_item EndTransaction) else servfail_sent request) ∷ []) fit)) in
      subst SendsNothing (sym (signed ∙ ap (option_map (signed_items (signer_for r key) First None)) items)) (servfail_by (error_reply request servfail) refl)

  pub choice_fails : (udp : Bool) (choice : Choice) → Begins choice → SendsChoice request limit udp choice given → SendsNothing sent
  choice_fails udp (Refuse rcode) begins sends = error_fails rcode sends
  choice_fails udp (SoaAlone v) begins sends = soa_fails v sends
  choice_fails true (Text v singles text) begins sends = udp_fails v text sends
  choice_fails false (Text v singles text) begins sends = text_fails singles text begins sends
