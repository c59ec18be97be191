-- Where the transfer service can make no reply.
use Rattle.std.proofs.Common.{◌≡◌, ℕ, ◌<◌, Bool, true, false, List, [], ◌∷◌, ◌++◌, map, Option, Some, None, refl, sym, ap, ◌∙◌}
use Rattle.std.specs.Prelude.{Result, if◌then◌else◌}
use Rattle.std.specs.Option.{option_map_or}
use Rattle.std.specs.List.{list_all}
use Rattle.dns_numbers.specs.Codes.{servfail}
use Rattle.dns_rdata.specs.Records.{Record}
use Rattle.dns_wire.specs.Wire.{Building, message_wire, fits}
use Rattle.zone_model.specs.Version.{Version}
use Rattle.zone_model.specs.Answer.{apex_soa_record}
use Rattle.zone_model.specs.Offer.{Offer}
use Rattle.xfr_services.specs.Items.{Sending, Calls, sent_by, reply_item, feedback_item}
use Rattle.xfr_services.specs.Items.Sending.{Given, Failed}
use Rattle.xfr_services.specs.LongReplies.{FailsOnlyWhereLong}
use Rattle.xfr_services.specs.Replying.{error_reply}
use Rattle.tsig_port.specs.Tsig.{TsigKey}
use Rattle.tsig_port.specs.ServerCheck.{Keys, verdict}
use Rattle.xfr_signing.specs.Failing.{fails, bare_len, FailsWhereLong, IsTooLong}
use Rattle.xfr_signing.specs.SignedServing.{SendsChecked}
use Rattle.xfr_services.specs.declared.requests.Request.{Request}
use Rattle.xfr_services.specs.declared.requests.TransportSpecificContext.{TransportSpecificContext}
use Rattle.xfr_services.specs.declared.services.ServiceError.{ServiceError}
use Rattle.xfr_services.proofs.LongReplies.{calls_only, long_questions}
use Rattle.xfr_services.specs.declared.services.ServiceFeedback.TheVariants.{EndTransaction}
use Rattle.xfr_signing.proofs.Failing.{errors_fail, checked_fails}
use Rattle.xfr_replies.specs.TransferPages.{page_answer, page_message, page_room, has_page}
use Rattle.xfr_replies.specs.PagedReplies.{page_sent, servfail_sent, end_sent}
use Rattle.xfr_replies.specs.PulledStreams.{SendsText}
use Rattle.xfr_server.specs.Requests.{with_metadata}
use Rattle.xfr_server.specs.Transfers.{Choice, transfer_mode, soa_reply, udp_reply, sent_once, chosen, reply_limit, is_udp, SendsChoice, SendsAnswer}
use Rattle.xfr_server.specs.Transfers.Choice.{Refuse, SoaAlone, Text}
use Rattle.xfr_server.specs.Serving.{SendsIn, SendsTransfer}
use Rattle.xfr_providers.specs.declared.providers.XfrDataProviderError.{XfrDataProviderError}
use Rattle.xfr_services.specs.declared.modes.XfrMode.{XfrMode}

-- ---- one reply

-- one of two replies, of which the first is there
either_fails : (request : List ℕ) (reply : Building) (other : Option Building) (fit : Bool) → (fails (sent_once other) ≡ true → 65535 < bare_len request)
    → fails (sent_once (if fit then Some reply else other)) ≡ true → 65535 < bare_len request
either_fails request reply other true rest e = cc
either_fails request reply other false rest e = rest e

error_fails : (request : List ℕ) (rcode : ℕ) → fails (sent_once (error_reply request rcode)) ≡ true → 65535 < bare_len request
error_fails request rcode e = (errors_fail request rcode).0 e

soa_fails : (request : List ℕ) (limit : ℕ) (v : Version) → fails (sent_once (soa_reply request limit v)) ≡ true → 65535 < bare_len request
soa_fails request limit v =
    either_fails request (page_message request limit (apex_soa_record v)) (error_reply request servfail)
    (fits limit (message_wire (page_answer request (apex_soa_record v)))) (error_fails request servfail)

udp_fails : (request : List ℕ) (limit : ℕ) (v : Version) (text : List Record) → fails (sent_once (udp_reply request limit v text)) ≡ true → 65535 < bare_len request
udp_fails request limit v text =
    either_fails request (page_message request limit text) (soa_reply request limit v) (fits limit (message_wire (page_answer request text))) (soa_fails request limit v)

-- ---- a stream

servfail_by : (request : List ℕ) (o : Option Building) → error_reply request servfail ≡ o
    → (sent_by (option_map_or (λ reply. Given (reply_item reply)) o Failed ∷ [])).fails ≡ true → 65535 < bare_len request
servfail_by request None is e = error_fails request servfail (ap (λ o. fails (sent_once o)) is)
servfail_by request (Some reply) is e = cc

end_by : (request : List ℕ) (fit : Bool) → (sent_by ((if fit then Given (feedback_item EndTransaction) else servfail_sent request) ∷ [])).fails ≡ true → 65535 < bare_len request
end_by request true e = cc
end_by request false e = servfail_by request (error_reply request servfail) refl e

end_fails : (request : List ℕ) (limit : ℕ) (text : List Record) → (sent_by (end_sent request limit text ∷ [])).fails ≡ true → 65535 < bare_len request
end_fails request limit text = end_by request (list_all (has_page (page_room request limit)) text)

-- a message for each page never fails
pages_stand : (request : List ℕ) (limit : ℕ) (last : Sending) (pages : List (List Record))
    → (sent_by (map (page_sent request limit) pages ++ last ∷ [])).fails ≡ (sent_by (last ∷ [])).fails
pages_stand request limit last [] = refl
pages_stand request limit last (page ∷ pages) = pages_stand request limit last pages

text_fails : (request : List ℕ) (limit : ℕ) (singles : Bool) (text : List Record) (sent : Option (List Sending)) → SendsText request limit singles text sent
    → fails sent ≡ true → 65535 < bare_len request
text_fails request limit singles text sent s e =
    let (items, is, (rest, begins, sends)) = s in
    end_fails request limit text (sym (pages_stand request limit (end_sent request limit text) sends.pages)
    ∙ sym (ap (λ (xs : List Sending). (sent_by xs).fails) sends.sent) ∙ sym (ap (λ (xs : List Sending). (sent_by xs).fails) begins) ∙ sym (ap fails is) ∙ e)

-- ---- the service

choice_fails : (request : List ℕ) (limit : ℕ) (udp : Bool) (choice : Choice) (sent : Option (List Sending)) → SendsChoice request limit udp choice sent
    → fails sent ≡ true → 65535 < bare_len request
choice_fails request limit udp (Refuse rcode) sent is e = error_fails request rcode (ap fails (sym is) ∙ e)
choice_fails request limit udp (SoaAlone v) sent is e = soa_fails request limit v (ap fails (sym is) ∙ e)
choice_fails request limit true (Text v singles text) sent is e = udp_fails request limit v text (ap fails (sym is) ∙ e)
choice_fails request limit false (Text v singles text) sent s e = text_fails request limit singles text sent s e

-- what is sent in answer to a transfer request
pub answers_only : {S : Type 0} (told : Option ℕ → Result Offer XfrDataProviderError) (mode : XfrMode) (transport : TransportSpecificContext) (reserved : ℕ) (message : List ℕ)
    (LeftOf : S → List Sending → Type 0) (result : Result S ServiceError)
    → Calls (SendsAnswer told mode transport reserved message) LeftOf result → Calls (FailsOnlyWhereLong message) LeftOf result
answers_only told mode transport reserved message LeftOf result calls =
    calls_only (SendsAnswer told mode transport reserved message) (FailsOnlyWhereLong message) LeftOf result
    (λ sent sends e. long_questions message (choice_fails message (reply_limit transport reserved) (is_udp transport) (chosen told mode (is_udp transport) message) sent sends e)) calls

module _ {M : Type 0} (IsDefault : M → Type 0) (Next : Request M → Option (List Sending) → Type 0) (told : List ℕ → M → Option ℕ → Result Offer XfrDataProviderError) (next : FailsWhereLong Next) (r : Request M) (sent : Option (List Sending)) where
  mode_fails : (mode : Option XfrMode) → SendsIn IsDefault Next told r sent mode → fails sent ≡ true → 65535 < bare_len r.message
  mode_fails None s e = next (with_metadata r s.metadata) sent s.next e
  mode_fails (Some mode) s e =
      choice_fails r.message (reply_limit r.transport r.reserved) (is_udp r.transport) (chosen (told r.message r.metadata) mode (is_udp r.transport) r.message) sent s e

  pub transfer_fails : SendsTransfer IsDefault Next told r sent → fails sent ≡ true → 65535 < bare_len r.message
  transfer_fails s e = mode_fails (transfer_mode r.message) s e

-- .. below the one that checks and signs
pub primary_fails : {M K : Type 0} (IsDefault : Option K → Type 0) (the_key : K → TsigKey) (keys : Keys) (Next : Request (Option K) → Option (List Sending) → Type 0)
    (told : List ℕ → Option K → Option ℕ → Result Offer XfrDataProviderError) → FailsWhereLong Next → (r : Request M) (sent : Option (List Sending))
    → SendsChecked the_key keys (SendsTransfer IsDefault Next told) r sent → fails sent ≡ true → IsTooLong r (verdict keys r.at r.message)
primary_fails IsDefault the_key keys Next told next r sent =
    checked_fails the_key keys (SendsTransfer IsDefault Next told) (λ handed given made no. transfer_fails IsDefault Next told next handed given made no) r sent
