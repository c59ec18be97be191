-- Replies that are signed in sequence (RFC 8945, 5.3 and 5.3.1).
use Rattle.std.specs.Prelude.{◌≡◌, ℕ, Bool, true, false, ◌&&◌, not, ◌==◌, List, [], ◌∷◌, Option, Some, None, Result, Ok, Err, if◌then◌else◌}
use Rattle.std.specs.List.{last_or}
use Rattle.dns_wire.specs.Wire.{Building, message_wire, arcount_in, fits}
use Rattle.dns_wire.specs.declared.builder.PushError.{PushError}
use Rattle.dns_wire.specs.declared.builder.PushError.TheVariants.{ShortBuf, CountOverflow, Memory as NoMemory}
use Rattle.tsig_port.specs.Tsig.{TsigKey, Tsig, answer_tsig, signed_answer}
use Rattle.tsig_port.specs.States.{ServerStands}
use Rattle.xfr_services.specs.Items.{Sending}
use Rattle.xfr_services.specs.Items.Sending.{Given, Failed}
use Rattle.xfr_services.specs.Replying.{truncated_answer}
use Rattle.xfr_services.specs.declared.services.CallResult.{CallResult}
use Rattle.xfr_services.specs.declared.services.ServiceFeedback.{ServiceFeedback}
use Rattle.xfr_services.specs.declared.services.ServiceFeedback.TheVariants.{BeginTransaction}
use Rattle.xfr_services.specs.declared.services.ServiceError.{ServiceError}
use Rattle.xfr_services.specs.declared.services.ServiceError.TheVariants.{InternalError, Memory}
use Rattle.xfr_signing.specs.declared.signing.Signing.{Signing}
use Rattle.xfr_signing.specs.declared.signing.Signing.TheVariants.{First, All, Done}
use Rattle.xfr_signing.specs.declared.signing.PostprocessingState.{PostprocessingState}

-- what signs the replies to a request: the key, the request's MAC, the request as it was received, and the moment
pub record Signer : Type 0 where
  pub key : TsigKey
  pub request_mac : List ℕ
  pub received : List ℕ
  pub at : ℕ

-- a reply's TSIG, and the reply with it, after signed ones the last of which had this MAC; the fudge is 300 seconds
abbrev pub reply_tsig : Signer → Option (List ℕ) → List ℕ → Tsig
reply_tsig s prior message = answer_tsig s.key s.request_mac prior message s.at 300

abbrev pub signed_reply : Signer → Option (List ℕ) → List ℕ → List ℕ
signed_reply s prior message = signed_answer s.key s.request_mac prior message s.at 300

-- whether a reply has room for its TSIG
abbrev pub can_be_signed : Signer → Option (List ℕ) → List ℕ → Bool
can_be_signed s prior message = fits 65535 (signed_reply s prior message) && not (arcount_in message == 65535)

-- the truncated reply that stands for one without room for its TSIG (RFC 8945, 5.3)
abbrev pub short_reply : Signer → List ℕ
short_reply s = message_wire (truncated_answer s.received)

abbrev pub short_to_sign : Signer → Option (List ℕ) → Option (List ℕ)
short_to_sign s prior = if fits 65535 (short_reply s) && can_be_signed s prior (short_reply s) then Some (short_reply s) else None

-- what is signed in place of a reply: itself, or else the truncated one, if either has room
abbrev pub to_sign : Signer → Option (List ℕ) → List ℕ → Option (List ℕ)
to_sign s prior message = if can_be_signed s prior message then Some message else short_to_sign s prior

-- ---- item by item

-- what comes of one item, and then which replies are signed, after which MAC
pub record Step : Type 0 where
  pub sending : Sending
  pub signing : Signing
  pub prior : Option (List ℕ)

-- a transaction begins: all replies are signed from now on
abbrev pub begun : Signing → Option ServiceFeedback → Signing
begun First (Some BeginTransaction) = All
begun signing _ = signing

-- outside a transaction the first reply alone is signed
abbrev pub behind : Signing → Signing
behind First = Done
behind All = All
behind Done = Done

-- whether the next reply is signed
abbrev pub is_due : Signing → Bool
is_due First = true
is_due All = true
is_due Done = false

abbrev pub as_it_is : Signing → Option (List ℕ) → CallResult → Step
as_it_is signing prior item = record { sending = Given item; signing = signing; prior = prior }

-- with the message that is signed
abbrev pub signed_step : Signer → Signing → Option (List ℕ) → Option ServiceFeedback → Option (List ℕ) → Step
signed_step s signing prior feedback None = record { sending = Failed; signing = behind signing; prior = prior }
signed_step s signing prior feedback (Some message) = record {
  sending = Given (record { response = Some (record { octets = signed_reply s prior message; limit = 65535 }); feedback = feedback });
  signing = behind signing;
  prior = Some (reply_tsig s prior message).mac;
}

abbrev pub step_reply : Signer → Signing → Option (List ℕ) → Option ServiceFeedback → Option Building → Step
step_reply s signing prior feedback None = as_it_is signing prior (record { response = None; feedback = feedback })
step_reply s signing prior feedback (Some reply) =
    if is_due signing then signed_step s signing prior feedback (to_sign s prior reply.octets)
    else as_it_is signing prior (record { response = Some reply; feedback = feedback })

abbrev pub step_item : Signer → Signing → Option (List ℕ) → CallResult → Step
step_item s signing prior item = step_reply s (begun signing item.feedback) prior item.feedback item.response

-- all items, those replies signed that have to be
abbrev pub signed_items : Signer → Signing → Option (List ℕ) → List Sending → List Sending
signed_items s signing prior [] = []
signed_items s signing prior (Failed ∷ more) = Failed ∷ signed_items s signing prior more
signed_items s signing prior (Given item ∷ more) =
    let step = step_item s signing prior item in
    step.sending ∷ signed_items s step.signing step.prior more

-- ---- the state

-- the state of a signed exchange is that of a signer, which signs these replies after this MAC
pub record Signs {K : Type 0} (the_key : K → TsigKey) (state : PostprocessingState K) (s : Signer) (signing : Signing) (prior : Option (List ℕ)) : Type 0 where
  pub macs : List (List ℕ)
  pub stands : ServerStands the_key state.sequence s.request_mac macs
  pub last : last_or None macs ≡ prior
  pub key : the_key state.sequence.key ≡ s.key
  pub received : state.received ≡ s.received
  pub at : state.now ≡ s.at
  pub which : state.signing ≡ signing

-- One case for each answer of a call that puts the next TSIG on a message: it is there, and the state stands after it; or there is
-- no room, or no memory, and the state is as before.
abbrev pub PutsTsig : {K : Type 0} → (K → TsigKey) → Signer → Signing → Option (List ℕ) → List ℕ → Result (Unit {0}) PushError → Building → PostprocessingState K → Type 0
PutsTsig the_key s signing prior message (Ok u) new state = (can_be_signed s prior message ≡ true) × (new ≡ record { octets = signed_reply s prior message; limit = 65535 }) × Signs the_key state s signing (Some (reply_tsig s prior message).mac)
PutsTsig the_key s signing prior message (Err ShortBuf) new state = (can_be_signed s prior message ≡ false) × Signs the_key state s signing prior
PutsTsig the_key s signing prior message (Err CountOverflow) new state = (can_be_signed s prior message ≡ false) × Signs the_key state s signing prior
PutsTsig the_key s signing prior message (Err NoMemory) new state = (can_be_signed s prior message ≡ true) × Signs the_key state s signing prior

-- a reply is this message with its TSIG
abbrev pub SignedAs : {K : Type 0} → (K → TsigKey) → Signer → Signing → Option (List ℕ) → Building → PostprocessingState K → Option (List ℕ) → Type 0
SignedAs the_key s signing prior reply state None = ⊥
SignedAs the_key s signing prior reply state (Some message) = (reply ≡ record { octets = signed_reply s prior message; limit = 65535 }) × Signs the_key state s signing (Some (reply_tsig s prior message).mac)

-- One case for each answer of a call that signs this message, or none: the message with its TSIG, or InternalError, after both of which
-- these are signed; without memory the state is as before.
abbrev pub SignsReply : {K : Type 0} → (K → TsigKey) → Signer → Signing → Signing → Option (List ℕ) → Option (List ℕ) → Result Building ServiceError → PostprocessingState K → Type 0
SignsReply the_key s signing after prior message (Ok reply) state = SignedAs the_key s after prior reply state message
SignsReply the_key s signing after prior message (Err InternalError) state = (message ≡ None) × Signs the_key state s after prior
SignsReply the_key s signing after prior message (Err Memory) state = Signs the_key state s signing prior

-- the same of a reply that is signed where that is due
abbrev pub SignsWhere : {K : Type 0} → Bool → (K → TsigKey) → Signer → Signing → Option (List ℕ) → Building → Result Building ServiceError → PostprocessingState K → Type 0
SignsWhere true the_key s signing prior reply result state = SignsReply the_key s signing (behind signing) prior (to_sign s prior reply.octets) result state
SignsWhere false the_key s signing prior reply result state = (result ≡ Ok reply) × Signs the_key state s signing prior

-- the same of a step with an item, where these were to be signed, after this MAC
abbrev pub StepsTo : {K : Type 0} → (K → TsigKey) → Signer → Signing → Option (List ℕ) → Step → Result CallResult ServiceError → PostprocessingState K → Type 0
StepsTo the_key s signing prior step (Ok item) state = (step.sending ≡ Given item) × Signs the_key state s step.signing step.prior
StepsTo the_key s signing prior step (Err InternalError) state = (step.sending ≡ Failed) × Signs the_key state s step.signing step.prior
StepsTo the_key s signing prior step (Err Memory) state = Signs the_key state s signing prior
