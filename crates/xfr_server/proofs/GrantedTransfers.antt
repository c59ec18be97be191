-- What a primary sends in a transfer that is granted.
use Rattle.std.proofs.Common.{◌≡◌, ℕ, ◌+◌, ◌-◌, ◌≤◌, Bool, true, false, ◌&&◌, ◌||◌, not, List, [], ◌∷◌, ◌++◌, map, Option, Some, None, min, refl, sym, ap, ◌∙◌, arith, subst}
use Rattle.std.specs.Prelude.{IsTrue, flat_map, option_map, is_some, Result, Ok}
use Rattle.std.specs.Option.{option_map_or}
use Rattle.std.specs.List.{AllByRecursion, list_all}
use Rattle.std.proofs.lemmas.List.{append-nil}
use Rattle.dns_numbers.specs.Codes.{type_soa}
use Rattle.dns_wire.specs.Wire.{message_wire, fits}
use Rattle.dns_rdata.specs.Records.{Field, Record}
use Rattle.dns_wire.specs.Parse.{sole_question_in}
use Rattle.tsig_port.specs.Tsig.{TsigKey, mac_in, is_mac_len, compose_len, signed_from, signed_answers}
use Rattle.tsig_port.specs.Checked.{taken_message}
use Rattle.tsig_port.specs.ServerCheck.{Keys, Verdict}
use Rattle.zone_model.specs.Version.{RecordSet, Version, set_at}
use Rattle.zone_model.specs.Answer.{apex_soa_record, first_only, records_of, records_of_option}
use Rattle.zone_model.specs.TransferText.{OnIxfr}
use Rattle.zone_model.specs.Offer.{Offer, IsCutInto, text_of}
use Rattle.xfr_replies.specs.TransferPages.{page_answer, page_room, has_page, sendable}
use Rattle.xfr_replies.specs.PagedReplies.{page_sent, end_sent, SendsRest, TransferSends}
use Rattle.xfr_replies.specs.PulledStreams.{SendsText}
use Rattle.xfr_replies.proofs.Cutting.{all_behind, sendable_behind}
use Rattle.xfr_replies.proofs.Pulling.{one_sent}
use Rattle.xfr_server.specs.Items.{Sending, sent_by, feedback_item}
use Rattle.xfr_server.specs.Items.Sending.{Given}
use Rattle.xfr_server.specs.Transfers.{Choice, chosen, choice_of, is_ixfr, reply_limit, soa_reply, sent_once, SendsAnswer, SendsChoice, asked_serial}
use Rattle.xfr_server.specs.Transfers.Choice.{Refuse, SoaAlone, Text}
use Rattle.xfr_server.specs.Signing.{Signer, signed_items}
use Rattle.xfr_server.specs.Serving.{SendsIn, SendsTransfer}
use Rattle.xfr_server.specs.SignedServing.{SendsBy, SendsSigned, accepted_request, signer_for, SendsChecked}
use Rattle.xfr_outcomes.specs.Modes.{mode_of}
use Rattle.xfr_server.specs.SentTexts.{sent_records, in_singles}
use Rattle.xfr_server.specs.GrantedTransfers.{begins_with_soa, IsSentWhole, SendsWhole}
use Rattle.xfr_providers.specs.declared.providers.XfrDataProviderError.{XfrDataProviderError}
use Rattle.xfr_services.specs.declared.requests.Request.{Request}
use Rattle.xfr_services.specs.declared.requests.TransportSpecificContext.{TransportSpecificContext}
use Rattle.xfr_services.specs.declared.requests.TransportSpecificContext.TheVariants.{NonUdp}
use Rattle.xfr_services.specs.declared.services.ServiceFeedback.TheVariants.{BeginTransaction, EndTransaction}
use Rattle.xfr_signing.specs.declared.signing.Signing.TheVariants.{First}
use Rattle.xfr_services.specs.declared.modes.XfrMode.{XfrMode}
use Rattle.xfr_services.specs.declared.modes.XfrMode.TheVariants.{Axfr, Ixfr}
use Rattle.xfr_server.proofs.Choice.{chosen_offer}
use Rattle.xfr_server.proofs.Pages.{IsPage, each_page}
use Rattle.xfr_server.proofs.SentTexts.{text_is_chosen, texts_begin}
use Rattle.xfr_server.proofs.SignedPages.{can_sign_page, page_fits, first_signed, EndsWith, pages_signed}

-- the key that was found is the one that is known
pub found_key : {K : Type 0} (the_key : K → TsigKey) (known : Option K) (key : TsigKey) → option_map the_key known ≡ Some key → (k : K) × ((known ≡ Some k) × (the_key k ≡ key))
found_key the_key None key e = cc
found_key the_key (Some k) key e = (k, (refl, cc))

-- any is answered by a stream
by_stream : (mode : XfrMode) → (is_ixfr mode || not false) ≡ true
by_stream Axfr = refl
by_stream Ixfr = refl

-- what is chosen is what is sent of the offer
names_one : (mode : XfrMode) (asked : Option ℕ) (serial : ℕ) → OnIxfr (mode_of mode) (asked ≡ Some serial) → (is_ixfr mode && not (is_some asked)) ≡ false
names_one Axfr asked serial names = refl
names_one Ixfr asked serial names = ap (λ o. not (is_some o)) names

offer_chosen : (told : Option ℕ → Result Offer XfrDataProviderError) (mode : XfrMode) (message : List ℕ) (serial : ℕ) (offer : Offer)
    → OnIxfr (mode_of mode) (asked_serial message ≡ Some serial) → told (asked_serial message) ≡ Ok offer
    → chosen told mode false message ≡ choice_of mode false (sole_question_in message) (asked_serial message) offer
offer_chosen told mode message serial offer names given =
    chosen_offer told mode false message offer (asked_serial message) refl (names_one mode (asked_serial message) serial names) given

-- ---- all records can be sent

-- the pages of a text have room, record by record
all_fit : (room : ℕ) (pages : List (List Record)) → AllByRecursion (IsPage room) pages → list_all (has_page room) (flat_map (λ page. page) pages) ≡ true
all_fit room [] each = refl
all_fit room (page ∷ more) each = all_behind room page (flat_map (λ p. p) more) each.0.1 ∙ all_fit room more each.1

all_sent : (room : ℕ) (pages : List (List Record)) → AllByRecursion (IsPage room) pages → sendable room (flat_map (λ page. page) pages) ≡ flat_map (λ page. page) pages
all_sent room [] each = refl
all_sent room (page ∷ more) each = sendable_behind room page (flat_map (λ p. p) more) each.0.1 ∙ ap (λ rs. page ++ rs) (all_sent room more each.1)

-- the items of a transfer with these pages
abbrev paged : List ℕ → ℕ → List (List Record) → List Sending
paged request limit pages = map (page_sent request limit) pages ++ Given (feedback_item EndTransaction) ∷ []

pages_are_sent : (request : List ℕ) (limit : ℕ) (singles : Bool) (text : List Record) (pages : List (List Record)) → IsCutInto (page_room request limit) singles text pages
    → TransferSends request limit singles text (Given (feedback_item BeginTransaction) ∷ paged request limit pages)
pages_are_sent request limit singles text pages cut =
    let room = page_room request limit in
    let each = each_page room singles pages cut.filled in
    let fit : list_all (has_page room) text ≡ true = subst (λ rs. list_all (has_page room) rs ≡ true) cut.joined (all_fit room pages each) in
    let all : sendable room text ≡ text = subst (λ rs. sendable room rs ≡ rs) cut.joined (all_sent room pages each) in
    let end : end_sent request limit text ≡ Given (feedback_item EndTransaction) = rw fit refl in
    let rest : SendsRest request limit singles text (paged request limit pages) = record {
      pages = pages;
      cut = subst (λ rs. IsCutInto room singles rs pages) (sym all) cut;
      sent = ap (λ last. map (page_sent request limit) pages ++ last ∷ []) (sym end);
    } in
    (paged request limit pages, refl, rest)

-- ---- the messages, signed

transaction_ends : (s : Signer) → EndsWith s (Given (feedback_item EndTransaction)) []
unfolding signed_from
transaction_ends s prior = refl

transaction_signed : (s : Signer) (request : List ℕ) (limit : ℕ) (pages : List (List Record)) → IsTrue (is_mac_len s.key.algorithm s.key.signing_len) → limit ≤ 65535 - compose_len s.key
    → AllByRecursion (IsPage (page_room request limit)) pages
    → sent_by (signed_items s First None (Given (feedback_item BeginTransaction) ∷ paged request limit pages))
    ≡ record { messages = signed_from s.key s.request_mac s.at 300 None (map message_wire (map (page_answer request) pages)); fails = false }
transaction_signed s request limit pages macs small each =
    pages_signed s request limit (Given (feedback_item EndTransaction)) [] macs small (transaction_ends s) pages None each
    ∙ ap (λ ms. record { messages = signed_from s.key s.request_mac s.at 300 None (map message_wire ms); fails = false }) (append-nil (map (page_answer request) pages))

-- ---- the SOA alone

-- a text of one record has one page
one_page : (room : ℕ) (pages : List (List Record)) (r : Record) → AllByRecursion (IsPage room) pages → flat_map (λ page. page) pages ≡ r ∷ [] → pages ≡ (r ∷ []) ∷ []
one_page room [] r each e = cc
one_page room ([] ∷ more) r each e = absurd (omega (arith, each.0.0))
one_page room ((x ∷ []) ∷ []) r each e = let same : x ≡ r = cc in ap (λ y. (y ∷ []) ∷ []) same
one_page room ((x ∷ []) ∷ [] ∷ more) r each e = absurd (omega (arith, each.1.0.0))
one_page room ((x ∷ []) ∷ (y ∷ page) ∷ more) r each e = cc
one_page room ((x ∷ y ∷ page) ∷ more) r each e = cc

soa_alone_of : (v : Version) (ttl : ℕ) (items : List (List Field)) → begins_with_soa (records_of v.apex type_soa v.class (first_only (record { ttl = ttl; items = items }))) ≡ true
    → (r : Record) × (records_of v.apex type_soa v.class (first_only (record { ttl = ttl; items = items })) ≡ r ∷ [])
soa_alone_of v ttl [] e = cc
soa_alone_of v ttl (d ∷ more) e = (record { owner = v.apex; rtype = type_soa; class = v.class; ttl = ttl; fields = d }, refl)

pub soa_alone_by : (v : Version) (o : Option RecordSet) → begins_with_soa (records_of_option v.apex type_soa v.class (option_map first_only o)) ≡ true
    → (r : Record) × (records_of_option v.apex type_soa v.class (option_map first_only o) ≡ r ∷ [])
soa_alone_by v None e = cc
soa_alone_by v (Some s) e = soa_alone_of v s.ttl s.items e

soa_given : (request : List ℕ) (limit : ℕ) (v : Version) → fits limit (message_wire (page_answer request (apex_soa_record v))) ≡ true
    → sent_once (soa_reply request limit v) ≡ Some (page_sent request limit (apex_soa_record v) ∷ [])
soa_given request limit v fit = rw fit refl

-- ---- the law

-- what is given to one who signed with that key
limit_left : (n : ℕ) → reply_limit NonUdp (min (0 + n) 65535) ≡ 65535 - n
limit_left n = omega arith

choice_given : {K : Type 0} (told : Option K → Option ℕ → Result Offer XfrDataProviderError) (mode : XfrMode) (message : List ℕ) (known : Option K) (k : K) (transport : TransportSpecificContext) (reserved n : ℕ)
    (given : Option (List Sending)) (choice : Choice) → SendsAnswer (told known) mode transport (min (reserved + n) 65535) message given
    → known ≡ Some k → transport ≡ NonUdp → reserved ≡ 0 → chosen (told (Some k)) mode false message ≡ choice → SendsChoice message (65535 - n) false choice given
choice_given told mode message known k transport reserved n given choice own is stream fresh chooses =
    let own_k = subst (λ o. SendsAnswer (told o) mode transport (min (reserved + n) 65535) message given) is own in
    let own_t = subst (λ t. SendsAnswer (told (Some k)) mode t (min (reserved + n) 65535) message given) stream own_k in
    let own_r : SendsChoice message (reply_limit NonUdp (min (0 + n) 65535)) false (chosen (told (Some k)) mode false message) given =
    subst (λ c. SendsAnswer (told (Some k)) mode NonUdp (min (c + n) 65535) message given) fresh own_t in
    let own_l = subst (λ l. SendsChoice message l false (chosen (told (Some k)) mode false message) given) (limit_left n) own_r in
    subst (λ c. SendsChoice message (65535 - n) false c given) chooses own_l

pub some_text : (x a : List Record) (y b : Bool) → ◌≡◌ {A = Option (List Record × Bool)} (Some (x, y)) (Some (a, b)) → (x ≡ a) × (y ≡ b)
some_text x a y b e =
    (ap (λ (o : Option (List Record × Bool)). option_map_or (λ p. p.0) o x) e, ap (λ (o : Option (List Record × Bool)). option_map_or (λ p. p.1) o y) e)

module _ {M : Type 0} (r : Request M) (key : TsigKey) (sent given : Option (List Sending)) (signed : sent ≡ option_map (signed_items (signer_for r key) First None) given) (macs : IsTrue (is_mac_len key.algorithm key.signing_len)) where
  abbrev message : List ℕ
  message = taken_message r.message

  abbrev limit : ℕ
  limit = 65535 - compose_len key

  whole : limit ≤ 65535 - compose_len key
  whole = omega arith

  text_sent : (singles : Bool) (text : List Record) (pages : List (List Record)) → IsCutInto (page_room message limit) singles text pages → SendsText message limit singles text given → IsSentWhole r key pages sent
  text_sent singles text pages cut sends =
      let mine : List Sending = Given (feedback_item BeginTransaction) ∷ paged message limit pages in
      let same : sends.0 ≡ mine = one_sent message limit singles text sends.0 mine sends.2 (pages_are_sent message limit singles text pages cut) in
      record {
        items = signed_items (signer_for r key) First None mine;
        some = signed ∙ ap (option_map (signed_items (signer_for r key) First None)) (sends.1 ∙ ap Some same);
        messages = transaction_signed (signer_for r key) message limit pages macs whole (each_page (page_room message limit) singles pages cut.filled);
      }

  soa_sent : (v : Version) (pages : List (List Record)) → begins_with_soa (apex_soa_record v) ≡ true → IsCutInto (page_room message limit) false (apex_soa_record v) pages
      → given ≡ sent_once (soa_reply message limit v) → IsSentWhole r key pages sent
  soa_sent v pages begins cut is =
      let soa = soa_alone_by v (set_at v v.apex type_soa) begins in
      let each = each_page (page_room message limit) false pages cut.filled in
      let alone : pages ≡ apex_soa_record v ∷ [] = one_page (page_room message limit) pages soa.0 each (cut.joined ∙ soa.1) ∙ ap (λ page. page ∷ []) (sym soa.1) in
      let page : IsPage (page_room message limit) (apex_soa_record v) = (subst (λ ps. AllByRecursion (IsPage (page_room message limit)) ps) alone each).0 in
      let fit = page_fits message limit (apex_soa_record v) page in
      let can = can_sign_page (signer_for r key) None message limit (apex_soa_record v) macs whole fit in
      record {
        items = signed_items (signer_for r key) First None (page_sent message limit (apex_soa_record v) ∷ []);
        some = signed ∙ ap (option_map (signed_items (signer_for r key) First None)) (is ∙ soa_given message limit v fit);
        messages = first_signed (signer_for r key) (page_answer message (apex_soa_record v)) limit can
            ∙ ap (λ ps. record { messages = signed_answers key (mac_in r.message) r.at 300 (map message_wire (map (page_answer message) ps)); fails = false }) (sym alone);
      }

  choice_sent : (choice : Choice) (text : List Record) (singles : Bool) (pages : List (List Record)) → sent_records choice ≡ Some (text, singles) → begins_with_soa text ≡ true
      → IsCutInto (page_room message limit) singles text pages → SendsChoice message limit false choice given → IsSentWhole r key pages sent
  choice_sent (Refuse rcode) text singles pages is begins cut sends = cc
  choice_sent (SoaAlone v) text singles pages is begins cut sends =
      let parts = some_text (apex_soa_record v) text false singles is in
      let P : List Record → Type 0 = λ rs. IsCutInto (page_room message limit) singles rs pages in
      let Q : Bool → Type 0 = λ b. IsCutInto (page_room message limit) b (apex_soa_record v) pages in
      soa_sent v pages (ap begins_with_soa parts.0 ∙ begins) (subst Q (sym parts.1) (subst P (sym parts.0) cut)) sends
  choice_sent (Text v wanted records) text singles pages is begins cut sends =
      let parts = some_text records text wanted singles is in
      let P : List Record → Type 0 = λ rs. SendsText message limit wanted rs given in
      let Q : Bool → Type 0 = λ b. SendsText message limit b text given in
      text_sent singles text pages cut (subst Q parts.1 (subst P parts.0 sends))

pub whole_sent : {M K : Type 0} (IsDefault : Option K → Type 0) (the_key : K → TsigKey) (keys : Keys) (Next : Request (Option K) → Option (List Sending) → Type 0)
    (told : List ℕ → Option K → Option ℕ → Result Offer XfrDataProviderError) (r : Request M) (key : TsigKey) (mode : XfrMode) (serial : ℕ) (offer : Offer) (sent : Option (List Sending))
    → SendsWhole (SendsChecked the_key keys (SendsTransfer IsDefault Next told)) the_key keys told r key mode serial offer sent
whole_sent IsDefault the_key keys Next told r key mode serial offer sent g sends =
    let message = taken_message r.message in
    let n = compose_len key in
    let P : Verdict → Type 0 = λ v. SendsBy the_key keys (SendsTransfer IsDefault Next told) r sent v in
    let by_key : SendsSigned the_key keys (SendsTransfer IsDefault Next told) r key sent = subst P g.accepted sends in
    let found = found_key the_key by_key.known key (by_key.is_known ∙ g.known) in
    let Q : Option XfrMode → Type 0 = λ o. SendsIn IsDefault Next told (accepted_request r key by_key.known) by_key.given o in
    let own : SendsAnswer (told message by_key.known) mode r.transport (min (r.reserved + n) 65535) message by_key.given = subst Q g.asks by_key.next in
    let choice : Choice = choice_of mode false (sole_question_in message) (asked_serial message) offer in
    let sends_choice : SendsChoice message (65535 - n) false choice by_key.given =
    choice_given (told message) mode message by_key.known found.0 r.transport r.reserved n by_key.given choice own found.1.0 g.stream g.fresh
    (offer_chosen (told message (Some found.0)) mode message serial offer g.names (g.granted found.0 found.1.1)) in
    choice_sent r key sent by_key.given by_key.signed g.macs choice (text_of offer (mode_of mode) serial) (in_singles (mode_of mode) offer.compatibility) g.pages
    (text_is_chosen mode false (sole_question_in message) (asked_serial message) serial offer (by_stream mode) g.names g.apex g.one_soa) (texts_begin mode serial offer g.one_soa) g.cut sends_choice
