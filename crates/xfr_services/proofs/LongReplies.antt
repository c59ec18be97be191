-- Where no reply can be made.
use Rattle.std.proofs.Common.{◌≡◌, ℕ, ◌+◌, ◌<◌, Bool, true, false, cond, List, length, Option, Some, None, refl, ap, ◌∙◌, arith}
use Rattle.std.specs.Prelude.{◌↔◌, option_map, Result, Ok, Err}
use Rattle.std.proofs.lemmas.Bool.Decides.{nat_tests}
use Rattle.dns_wire.specs.Wire.{message_wire, fits}
use Rattle.dns_wire.specs.Reply.{empty_answer}
use Rattle.xfr_services.specs.Items.{Sending, Makes, Calls, all_given, one_reply}
use Rattle.xfr_services.specs.Replying.{error_replies, error_sends}
use Rattle.xfr_services.specs.LongReplies.{fails, bare_len, RepliesFailWhereLong, HasLongQuestions, FailsOnlyWhereLong}
use Rattle.xfr_services.specs.declared.services.CallResult.{CallResult}
use Rattle.xfr_services.specs.declared.services.ServiceError.{ServiceError}
use Rattle.xfr_services.specs.declared.services.ServiceError.TheVariants.{InternalError, Memory}

pub too_long : (octets : List ℕ) → fits 65535 octets ≡ false → 65535 < length octets
too_long octets e = grind (arith, nat_tests)

not_long : (octets : List ℕ) → fits 65535 octets ≡ true → 65535 < length octets → false ≡ true
not_long octets e long = absurd (grind (arith, nat_tests))

-- ---- a reply without records

error_by : (octets : List ℕ) (fit : Bool) → fits 65535 octets ≡ fit
    → (fails (option_map all_given (option_map one_reply (cond fit (Some (record { octets = octets; limit = 65535 })) None))) ≡ true) ↔ (65535 < length octets)
error_by octets true is = (λ e. cc, λ long. not_long octets is long)
error_by octets false is = (λ e. too_long octets is, λ long. refl)

pub errors_fail : RepliesFailWhereLong
errors_fail request rcode = error_by (message_wire (empty_answer request rcode)) (fits 65535 (message_wire (empty_answer request rcode))) refl

-- ---- the clause of every service

-- questions that are too long by themselves
pub long_questions : (request : List ℕ) → 65535 < bare_len request → HasLongQuestions request
long_questions request long = record { as_read = request; same = (refl, refl); long = omega (arith, long) }

-- what is known of all that may be sent
pub calls_only : {S : Type 0} (P Q : Option (List Sending) → Type 0) (LeftOf : S → List Sending → Type 0) (result : Result S ServiceError)
    → ((sent : Option (List Sending)) → P sent → Q sent) → Calls P LeftOf result → Calls Q LeftOf result
calls_only P Q LeftOf (Ok stream) only g = record { items = g.items; sent = only (Some g.items) g.sent; left = g.left }
calls_only P Q LeftOf (Err InternalError) only none = only None none
calls_only P Q LeftOf (Err Memory) only u = tt

-- replies that are made beforehand
pub made_fails : (request : List ℕ) (made : Option (List CallResult)) (result : Result (List CallResult) ServiceError) → Makes made result
    → FailsOnlyWhereLong request (option_map all_given made) → Calls (FailsOnlyWhereLong request) (λ s items. items ≡ all_given s) result
made_fails request made (Ok replies) is only =
    record { items = all_given replies; sent = λ e. only (ap (λ o. fails (option_map all_given o)) is ∙ e); left = refl }
made_fails request made (Err InternalError) is only = λ e. only (ap (λ o. fails (option_map all_given o)) is ∙ e)
made_fails request made (Err Memory) is only = tt

pub refusals_fail : (request : List ℕ) (rcode : ℕ) (result : Result (List CallResult) ServiceError) → Makes (error_replies request rcode) result
    → Calls (FailsOnlyWhereLong request) (λ s items. items ≡ all_given s) result
refusals_fail request rcode result made =
    made_fails request (error_replies request rcode) result made (λ e. long_questions request ((errors_fail request rcode).0 e))
