-- What is chosen of an offer, and what is sent of that.
use Rattle.std.proofs.Common.{◌≡◌, ℕ, Bool, true, false, ◌&&◌, not, List, [], Option, refl, sym, ap, ◌∙◌, subst}
use Rattle.std.specs.Prelude.{Some, Result, Ok, Err, IsSome, IsOk, is_some, option_map, if◌then◌else◌}
use Rattle.dns_numbers.specs.Codes.{servfail}
use Rattle.dns_rdata.specs.Records.{Record}
use Rattle.dns_wire.specs.Wire.{Building, message_wire, fits}
use Rattle.dns_wire.specs.Parse.{sole_question_in}
use Rattle.dns_wire.specs.Builds.{BuildsBehind}
use Rattle.dns_wire.specs.declared.builder.PushError.{PushError}
use Rattle.dns_wire.specs.declared.builder.PushError.TheVariants.{ShortBuf}
use Rattle.zone_model.specs.Offer.{Offer}
use Rattle.zone_model.specs.Version.{Version}
use Rattle.zone_model.specs.Answer.{apex_soa_record}
use Rattle.xfr_replies.specs.TransferPages.{page_answer, page_message}
use Rattle.xfr_replies.proofs.PageRooms.{error_made}
use Rattle.xfr_services.proofs.Making.{some_replies}
use Rattle.xfr_server.specs.Replying.{error_reply}
use Rattle.xfr_server.specs.Items.{Sending, Calls, Makes, all_given, one_reply}
use Rattle.xfr_server.specs.Transfers.{asked_serial, is_ixfr, chosen, choice_of, soa_reply, udp_reply, SendsChoice}
use Rattle.xfr_server.specs.Choosing.{IsOffered, short_shown, short_sent}
use Rattle.xfr_server.specs.declared.transfer.Short.{Short}
use Rattle.xfr_server.specs.declared.transfer.Short.TheVariants.{Error, SoaAlone}
use Rattle.xfr_services.specs.declared.services.CallResult.{CallResult}
use Rattle.xfr_services.specs.declared.services.ServiceError.{ServiceError}
use Rattle.xfr_providers.specs.declared.providers.XfrDataProviderError.{XfrDataProviderError}
use Rattle.xfr_services.specs.declared.modes.XfrMode.{XfrMode}

here : (told : Option ℕ → Result Offer XfrDataProviderError) (mode : XfrMode) (udp : Bool) (message : List ℕ) (offer : Offer)
    → (is_ixfr mode && not (is_some (asked_serial message))) ≡ false → told (asked_serial message) ≡ Ok offer
    → chosen told mode udp message ≡ choice_of mode udp (sole_question_in message) (asked_serial message) offer
here told mode udp message offer test given = rw (test, given) refl

pub chosen_offer : (told : Option ℕ → Result Offer XfrDataProviderError) (mode : XfrMode) (udp : Bool) (message : List ℕ) (offer : Offer) (asked : Option ℕ) → asked ≡ asked_serial message
    → (is_ixfr mode && not (is_some asked)) ≡ false → told asked ≡ Ok offer
    → chosen told mode udp message ≡ choice_of mode udp (sole_question_in message) asked offer
chosen_offer told mode udp message offer asked same test given =
    let P : Option ℕ → Type 0 = λ o. (is_ixfr mode && not (is_some o)) ≡ false → told o ≡ Ok offer → chosen told mode udp message ≡ choice_of mode udp (sole_question_in message) o offer in
    subst P (sym same) (here told mode udp message offer) test given

-- where the provider wants memory, it has an offer
pub offered : (told : Option ℕ → Result Offer XfrDataProviderError) (mode : XfrMode) (message : List ℕ) (asked : Option ℕ) → asked ≡ asked_serial message
    → (is_ixfr mode && not (is_some asked)) ≡ false → IsOk (told asked) → IsOffered told mode message
offered told mode message asked same test given =
    let P : Option ℕ → Type 0 = λ o. (is_ixfr mode && not (is_some o)) ≡ false in
    let Q : Option ℕ → Type 0 = λ o. IsOk (told o) in
    record { named = subst P same test; offer = subst Q same given }

-- what is answered without a text
pub calls_short : {S : Type 0} (LeftOf : S → List Sending → Type 0) (request : List ℕ) (limit : ℕ) (udp : Bool) (s : Short) (made : Result S ServiceError)
    → Calls (λ sent. sent ≡ option_map all_given (option_map one_reply (short_sent request limit s))) LeftOf made → Calls (SendsChoice request limit udp (short_shown s)) LeftOf made
calls_short LeftOf request limit udp (Error rcode) made calls = calls
calls_short LeftOf request limit udp (SoaAlone zone) made calls = calls

-- by UDP, where the text has no room
without_room : (request : List ℕ) (limit : ℕ) (v : Version) (text : List Record) → fits limit (message_wire (page_answer request text)) ≡ false
    → udp_reply request limit v text ≡ soa_reply request limit v
without_room request limit v text none = rw none refl

pub makes_soa : (request : List ℕ) (limit : ℕ) (v w : Version) (text : List Record) (made : Result (List CallResult) ServiceError) (e : PushError) → e ≡ ShortBuf
    → BuildsBehind (message_wire (page_answer request [])) (message_wire (page_answer request text)) limit (Err e) → w ≡ v → Makes (option_map one_reply (soa_reply request limit w)) made
    → Makes (option_map one_reply (udp_reply request limit v text)) made
makes_soa request limit v w text made e short refused same soa =
    let none : fits limit (message_wire (page_answer request text)) ≡ false = subst (λ (x : PushError). BuildsBehind (message_wire (page_answer request [])) (message_wire (page_answer request text)) limit (Err x)) short refused in
    let P : Option (List CallResult) → Type 0 = λ o. Makes o made in
    subst P (ap (λ x. option_map one_reply (soa_reply request limit x)) same ∙ sym (ap (option_map one_reply) (without_room request limit v text none))) soa

-- where header and question have room, something can be answered
by_room : (fit : Bool) (reply : Building) (other : Option Building) → IsSome (option_map one_reply other) → IsSome (option_map one_reply (if fit then Some reply else other))
by_room true reply other some = refl
by_room false reply other some = some

pub soa_some : (request : List ℕ) (limit : ℕ) (v : Version) → fits limit (message_wire (page_answer request [])) ≡ true → IsSome (option_map one_reply (soa_reply request limit v))
soa_some request limit v room =
    by_room (fits limit (message_wire (page_answer request (apex_soa_record v)))) (page_message request limit (apex_soa_record v)) (error_reply request servfail) (some_replies (error_reply request servfail) (error_made request limit servfail room))

pub udp_some : (request : List ℕ) (limit : ℕ) (v : Version) (text : List Record) → fits limit (message_wire (page_answer request [])) ≡ true
    → IsSome (option_map one_reply (udp_reply request limit v text))
udp_some request limit v text room =
    by_room (fits limit (message_wire (page_answer request text))) (page_message request limit text) (soa_reply request limit v) (soa_some request limit v room)
