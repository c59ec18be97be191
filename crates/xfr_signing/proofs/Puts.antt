-- Signing the replies one after another.
use Rattle.std.proofs.Common.{◌≡◌, ◌≢◌, ℕ, Bool, true, false, ◌&&◌, not, cond, List, [], ◌∷◌, ◌++◌, Option, Some, None, refl, sym, ap, ◌∙◌, arith, subst}
use Rattle.std.specs.Prelude.{Result, Ok, Err, OnOk, OnErr, ◌==◌}
use Rattle.std.specs.List.{last_or}
use Rattle.std.proofs.lemmas.Bool.Decides.{nat_tests}
use Rattle.dns_rdata.specs.Records.{record_wire}
use Rattle.dns_wire.specs.Wire.{Building, message_wire, fits, header_number}
use Rattle.dns_wire.specs.Builds.{Adds, building}
use Rattle.dns_wire.specs.declared.builder.PushError.{PushError}
use Rattle.dns_wire.specs.declared.builder.PushError.TheVariants.{ShortBuf, CountOverflow, Memory}
use Rattle.tsig_port.specs.Tsig.{TsigKey, answer_tsig, tsig_record}
use Rattle.tsig_port.specs.States.{ServerStands}
use Rattle.tsig_port.specs.declared.server.ServerSequence.{ServerSequence}
use Rattle.xfr_services.specs.Items.{service_error_of}
use Rattle.xfr_services.specs.Items.Sending.{Given}
use Rattle.xfr_services.specs.Replying.{truncated_answer, truncated_reply}
use Rattle.xfr_signing.specs.Signing.{Signer, Signs, PutsTsig, SignedAs, SignsReply, SignsWhere, StepsTo, signed_step, step_reply, step_item, begun, is_due, as_it_is, can_be_signed, signed_reply, short_reply, short_to_sign, to_sign, behind}
use Rattle.xfr_services.specs.declared.services.CallResult.{CallResult}
use Rattle.xfr_services.specs.declared.services.ServiceFeedback.{ServiceFeedback}
use Rattle.xfr_services.specs.declared.services.ServiceError.{ServiceError}
use Rattle.xfr_services.specs.declared.services.ServiceError.TheVariants.{InternalError, Memory as NoMemory}
use Rattle.xfr_signing.specs.declared.signing.Signing.{Signing}
use Rattle.xfr_signing.specs.declared.signing.PostprocessingState.{PostprocessingState}

pub has_both : (a : Bool) (n : ℕ) → a ≡ true → n ≢ 65535 → (a && not (n == 65535)) ≡ true
has_both true n e few = let other : (n == 65535) ≡ false = grind (arith, nat_tests) in rw other refl
has_both false n e few = cc

has_no_room : (a : Bool) (n : ℕ) → a ≡ false → (a && not (n == 65535)) ≡ false
has_no_room true n e = cc
has_no_room false n e = refl

has_no_count : (a : Bool) (n : ℕ) → n ≡ 65535 → (a && not (n == 65535)) ≡ false
has_no_count true n e = let same : (n == 65535) ≡ true = grind (arith, nat_tests) in rw same refl
has_no_count false n e = refl

last_pushed : {X : Type 0} (d : Option X) (xs : List X) (x : X) → last_or d (xs ++ x ∷ []) ≡ Some x
last_pushed d [] x = refl
last_pushed d (y ∷ ys) x = last_pushed (Some y) ys x

-- what a sequence adds, for the state that holds it
abbrev pub AddsTsig : {K : Type 0} → (K → TsigKey) → PostprocessingState K → Building → Result (Unit {0}) PushError → Building → Type 0
AddsTsig the_key state message result new = (request_mac : List ℕ) (macs : List (List ℕ)) → ServerStands the_key state.sequence request_mac macs
    → Adds 10 (record_wire (tsig_record (the_key state.sequence.key).name (answer_tsig (the_key state.sequence.key) request_mac (last_or None macs) message.octets state.now 300))) message result new

abbrev pub GoesOn : {K : Type 0} → (K → TsigKey) → PostprocessingState K → Building → ServerSequence K → Type 0
GoesOn the_key state message next = (next.key ≡ state.sequence.key) × ((request_mac : List ℕ) (macs : List (List ℕ)) → ServerStands the_key state.sequence request_mac macs
    → ServerStands the_key next request_mac (macs ++ (answer_tsig (the_key state.sequence.key) request_mac (last_or None macs) message.octets state.now 300).mac ∷ []))

pub puts : {K : Type 0} (the_key : K → TsigKey) (state : PostprocessingState K) (next : ServerSequence K) (message new : Building) (result : Result (Unit {0}) PushError)
    → AddsTsig the_key state message result new → OnOk result (GoesOn the_key state message next) → OnErr result (next ≡ state.sequence)
    → (s : Signer) (signing : Signing) (prior : Option (List ℕ)) → Signs the_key state s signing prior → message.limit ≡ 65535
    → PutsTsig the_key s signing prior message.octets result new (record state { sequence = next })
puts the_key state next message new (Ok u) adds goes kept s signing prior signs limit =
    let added = rw (signs.key, signs.last, signs.at, limit) at (adds s.request_mac signs.macs signs.stands) in
    let m = message.octets in (
      has_both (fits 65535 (signed_reply s prior m)) (header_number 10 m) added.0 added.1,
      added.2,
      record {
        macs = signs.macs ++ (answer_tsig (the_key state.sequence.key) s.request_mac (last_or None signs.macs) m state.now 300).mac ∷ [];
        stands = goes.1 s.request_mac signs.macs signs.stands;
        last = last_pushed None signs.macs _ ∙ rw (signs.key, signs.last, signs.at) refl;
        key = ap the_key goes.0 ∙ signs.key;
        received = signs.received;
        at = signs.at;
        which = signs.which;
      },
    )
puts the_key state next message new (Err ShortBuf) adds goes kept s signing prior signs limit =
    let added = rw (signs.key, signs.last, signs.at, limit) at (adds s.request_mac signs.macs signs.stands) in
    let m = message.octets in
    let P : ServerSequence _ → Type 0 = λ q. Signs the_key (record state { sequence = q }) s signing prior in
    (has_no_room (fits 65535 (signed_reply s prior m)) (header_number 10 m) added.0, subst P (sym kept) signs)
puts the_key state next message new (Err CountOverflow) adds goes kept s signing prior signs limit =
    let added = adds s.request_mac signs.macs signs.stands in
    let m = message.octets in
    let P : ServerSequence _ → Type 0 = λ q. Signs the_key (record state { sequence = q }) s signing prior in
    (has_no_count (fits 65535 (signed_reply s prior m)) (header_number 10 m) added.1, subst P (sym kept) signs)
puts the_key state next message new (Err Memory) adds goes kept s signing prior signs limit =
    let added = rw (signs.key, signs.last, signs.at, limit) at (adds s.request_mac signs.macs signs.stands) in
    let m = message.octets in
    let P : ServerSequence _ → Type 0 = λ q. Signs the_key (record state { sequence = q }) s signing prior in
    (has_both (fits 65535 (signed_reply s prior m)) (header_number 10 m) added.0 added.1, subst P (sym kept) signs)

-- ---- a reply, or the truncated one in its place

signed_when : (s : Signer) (prior : Option (List ℕ)) (message : List ℕ) → can_be_signed s prior message ≡ true → to_sign s prior message ≡ Some message
signed_when s prior message can = rw can refl

short_when : (s : Signer) (prior : Option (List ℕ)) (message : List ℕ) → can_be_signed s prior message ≡ false → to_sign s prior message ≡ short_to_sign s prior
short_when s prior message can = rw can refl

built_is : (octets : List ℕ) (b : Building) (fit : Bool) → fits 65535 octets ≡ fit → cond fit (Some (record { octets = octets; limit = 65535 })) None ≡ Some b
    → (fits 65535 octets ≡ true) × (b ≡ record { octets = octets; limit = 65535 })
built_is octets b true e is = (e, cc)
built_is octets b false e is = cc

built_none : (octets : List ℕ) (fit : Bool) → fits 65535 octets ≡ fit → cond fit (Some (building octets 65535)) None ≡ None → fits 65535 octets ≡ false
built_none octets true e is = cc
built_none octets false e is = e

-- the reply has its TSIG
pub signed_reply_is : {K : Type 0} (the_key : K → TsigKey) (s : Signer) (signing : Signing) (prior : Option (List ℕ)) (message : List ℕ) (u : Unit {0}) (new : Building) (state : PostprocessingState K)
    → PutsTsig the_key s signing prior message (Ok u) new state → SignsReply the_key s signing signing prior (to_sign s prior message) (Ok new) state
signed_reply_is the_key s signing prior message u new state put =
    let P : Option (List ℕ) → Type 0 = λ m. SignsReply the_key s signing signing prior m (Ok new) state in
    subst P (sym (signed_when s prior message put.0)) (put.1, put.2)

-- the truncated one stands in its place
pub replaced : {K : Type 0} (the_key : K → TsigKey) (s : Signer) (signing : Signing) (prior : Option (List ℕ)) (message : List ℕ) (result : Result Building ServiceError) (state : PostprocessingState K)
    → can_be_signed s prior message ≡ false → SignsReply the_key s signing signing prior (short_to_sign s prior) result state → SignsReply the_key s signing signing prior (to_sign s prior message) result state
replaced the_key s signing prior message result state none short =
    let P : Option (List ℕ) → Type 0 = λ m. SignsReply the_key s signing signing prior m result state in
    subst P (sym (short_when s prior message none)) short

short_signed : (s : Signer) (prior : Option (List ℕ)) → fits 65535 (short_reply s) ≡ true → can_be_signed s prior (short_reply s) ≡ true → short_to_sign s prior ≡ Some (short_reply s)
short_signed s prior fit can = rw (fit, can) refl

none_then : (a : Bool) (message : List ℕ) → cond (a && false) (Some message) None ≡ None
none_then true message = refl
none_then false message = refl

short_unsigned : (s : Signer) (prior : Option (List ℕ)) → can_be_signed s prior (short_reply s) ≡ false → short_to_sign s prior ≡ None
short_unsigned s prior can = rw can (none_then (fits 65535 (short_reply s)) (short_reply s))

pub short_limit : (received : List ℕ) (short : Building) → truncated_reply received ≡ Some short → short.limit ≡ 65535
short_limit received short made =
    let octets = message_wire (truncated_answer received) in
    ap (λ (b : Building). b.limit) (built_is octets short (fits 65535 octets) refl made).1

-- the truncated reply is built, and has its TSIG or not
pub short_is : {K : Type 0} (the_key : K → TsigKey) (s : Signer) (signing : Signing) (prior : Option (List ℕ)) (received : List ℕ) (short new : Building) (u : Unit {0}) (state : PostprocessingState K)
    → truncated_reply received ≡ Some short → received ≡ s.received → PutsTsig the_key s signing prior short.octets (Ok u) new state
    → SignsReply the_key s signing signing prior (short_to_sign s prior) (Ok new) state
short_is the_key s signing prior received short new u state made same put =
    let octets = message_wire (truncated_answer received) in
    let is = built_is octets short (fits 65535 octets) refl made in
    let whole : short.octets ≡ short_reply s = ap (λ (b : Building). b.octets) is.1 ∙ ap (λ r. message_wire (truncated_answer r)) same in
    let fit : fits 65535 (short_reply s) ≡ true = ap (λ r. fits 65535 (message_wire (truncated_answer r))) (sym same) ∙ is.0 in
    let now = rw whole at put in
    let P : Option (List ℕ) → Type 0 = λ m. SignsReply the_key s signing signing prior m (Ok new) state in
    subst P (sym (short_signed s prior fit now.0)) (now.1, now.2)

short_out : (s : Signer) (prior : Option (List ℕ)) (received : List ℕ) (short : Building) → truncated_reply received ≡ Some short → received ≡ s.received
    → can_be_signed s prior short.octets ≡ false → short_to_sign s prior ≡ None
short_out s prior received short made same none =
    let octets = message_wire (truncated_answer received) in
    let is = built_is octets short (fits 65535 octets) refl made in
    let whole : short.octets ≡ short_reply s = ap (λ (b : Building). b.octets) is.1 ∙ ap (λ r. message_wire (truncated_answer r)) same in
    short_unsigned s prior (rw whole at none)

pub short_refused : {K : Type 0} (the_key : K → TsigKey) (s : Signer) (signing : Signing) (prior : Option (List ℕ)) (received : List ℕ) (short new : Building) (e : PushError) (state : PostprocessingState K)
    → truncated_reply received ≡ Some short → received ≡ s.received → PutsTsig the_key s signing prior short.octets (Err e) new state
    → SignsReply the_key s signing signing prior (short_to_sign s prior) (Err (service_error_of e)) state
short_refused the_key s signing prior received short new ShortBuf state made same put = (short_out s prior received short made same put.0, put.1)
short_refused the_key s signing prior received short new CountOverflow state made same put = (short_out s prior received short made same put.0, put.1)
short_refused the_key s signing prior received short new Memory state made same put = put.1

-- ---- the state

-- after a reply
now_behind : {K : Type 0} (the_key : K → TsigKey) (state : PostprocessingState K) (which : Signing) (s : Signer) (signing : Signing) (prior : Option (List ℕ)) → which ≡ behind signing
    → Signs the_key state s signing prior → Signs the_key (record state { signing = which }) s (behind signing) prior
now_behind the_key state which s signing prior is signs =
    record { macs = signs.macs; stands = signs.stands; last = signs.last; key = signs.key; received = signs.received; at = signs.at; which = is }

pub signed_behind : {K : Type 0} (the_key : K → TsigKey) (state : PostprocessingState K) (which : Signing) (s : Signer) (signing : Signing) (prior message : Option (List ℕ)) (new : Building) → which ≡ behind signing
    → SignsReply the_key s signing signing prior message (Ok new) state → SignsReply the_key s signing (behind signing) prior message (Ok new) (record state { signing = which })
signed_behind the_key state which s signing prior None new is made = made
signed_behind the_key state which s signing prior (Some message) new is made = (made.0, now_behind the_key state which s signing _ is made.1)

pub failed_behind : {K : Type 0} (the_key : K → TsigKey) (state : PostprocessingState K) (which : Signing) (s : Signer) (signing : Signing) (prior message : Option (List ℕ)) → which ≡ behind signing
    → SignsReply the_key s signing signing prior message (Err InternalError) state → SignsReply the_key s signing (behind signing) prior message (Err InternalError) (record state { signing = which })
failed_behind the_key state which s signing prior message is made = (made.0, now_behind the_key state which s signing prior is made.1)

-- ---- a step

signed_item_is : {K : Type 0} (the_key : K → TsigKey) (s : Signer) (signing : Signing) (prior : Option (List ℕ)) (feedback : Option ServiceFeedback) (new : Building) (state : PostprocessingState K) (message : Option (List ℕ))
    → SignedAs the_key s (behind signing) prior new state message → StepsTo the_key s signing prior (signed_step s signing prior feedback message) (Ok (record { response = Some new; feedback = feedback })) state
signed_item_is the_key s signing prior feedback new state None made = absurd made
signed_item_is the_key s signing prior feedback new state (Some message) made = (ap (λ (b : Building). Given (record { response = Some b; feedback = feedback })) (sym made.0), made.1)

unsigned_item_is : {K : Type 0} (the_key : K → TsigKey) (s : Signer) (signing : Signing) (prior : Option (List ℕ)) (feedback : Option ServiceFeedback) (state : PostprocessingState K) (message : Option (List ℕ))
    → message ≡ None → Signs the_key state s (behind signing) prior → StepsTo the_key s signing prior (signed_step s signing prior feedback message) (Err InternalError) state
unsigned_item_is the_key s signing prior feedback state None e signs = (refl, signs)
unsigned_item_is the_key s signing prior feedback state (Some message) e signs = cc

-- an item with a reply that is signed where that is due
pub step_with : {K : Type 0} (the_key : K → TsigKey) (s : Signer) (signing : Signing) (prior : Option (List ℕ)) (feedback : Option ServiceFeedback) (reply new : Building) (state : PostprocessingState K) (due : Bool)
    → SignsWhere due the_key s signing prior reply (Ok new) state
    → StepsTo the_key s signing prior (cond due (signed_step s signing prior feedback (to_sign s prior reply.octets)) (as_it_is signing prior (record { response = Some reply; feedback = feedback }))) (Ok (record { response = Some new; feedback = feedback })) state
step_with the_key s signing prior feedback reply new state true where_due = signed_item_is the_key s signing prior feedback new state (to_sign s prior reply.octets) where_due
step_with the_key s signing prior feedback reply new state false where_due =
    let same : new ≡ reply = cc in
    (ap (λ (b : Building). Given (record { response = Some b; feedback = feedback })) (sym same), where_due.1)

pub step_failed : {K : Type 0} (the_key : K → TsigKey) (s : Signer) (signing : Signing) (prior : Option (List ℕ)) (feedback : Option ServiceFeedback) (reply : Building) (e : ServiceError) (state : PostprocessingState K) (due : Bool)
    → SignsWhere due the_key s signing prior reply (Err e) state
    → StepsTo the_key s signing prior (cond due (signed_step s signing prior feedback (to_sign s prior reply.octets)) (as_it_is signing prior (record { response = Some reply; feedback = feedback }))) (Err e) state
step_failed the_key s signing prior feedback reply InternalError state true where_due = unsigned_item_is the_key s signing prior feedback state (to_sign s prior reply.octets) where_due.0 where_due.1
step_failed the_key s signing prior feedback reply InternalError state false where_due = cc
step_failed the_key s signing prior feedback reply NoMemory state true where_due = where_due
step_failed the_key s signing prior feedback reply NoMemory state false where_due = cc

-- an item without a reply stays as it is
pub step_none : {K : Type 0} (the_key : K → TsigKey) (s : Signer) (signing : Signing) (prior : Option (List ℕ)) (item : CallResult) (state : PostprocessingState K) → item.response ≡ None
    → Signs the_key state s (begun signing item.feedback) prior → StepsTo the_key s (begun signing item.feedback) prior (step_item s signing prior item) (Ok (record { response = None; feedback = item.feedback })) state
step_none the_key s signing prior item state none signs =
    let P : Option Building → Type 0 = λ r. StepsTo the_key s (begun signing item.feedback) prior (step_reply s (begun signing item.feedback) prior item.feedback r) (Ok (record { response = None; feedback = item.feedback })) state in
    subst P (sym none) (refl, signs)

-- one with a reply has it signed where that is due
pub step_some : {K : Type 0} (the_key : K → TsigKey) (s : Signer) (signing : Signing) (prior : Option (List ℕ)) (item : CallResult) (reply new : Building) (state : PostprocessingState K) → item.response ≡ Some reply
    → SignsWhere (is_due (begun signing item.feedback)) the_key s (begun signing item.feedback) prior reply (Ok new) state
    → StepsTo the_key s (begun signing item.feedback) prior (step_item s signing prior item) (Ok (record { response = Some new; feedback = item.feedback })) state
step_some the_key s signing prior item reply new state some where_due =
    let now = begun signing item.feedback in
    let P : Option Building → Type 0 = λ r. StepsTo the_key s now prior (step_reply s now prior item.feedback r) (Ok (record { response = Some new; feedback = item.feedback })) state in
    subst P (sym some) (step_with the_key s now prior item.feedback reply new state (is_due now) where_due)

pub step_error : {K : Type 0} (the_key : K → TsigKey) (s : Signer) (signing : Signing) (prior : Option (List ℕ)) (item : CallResult) (reply : Building) (e : ServiceError) (state : PostprocessingState K) → item.response ≡ Some reply
    → SignsWhere (is_due (begun signing item.feedback)) the_key s (begun signing item.feedback) prior reply (Err e) state
    → StepsTo the_key s (begun signing item.feedback) prior (step_item s signing prior item) (Err e) state
step_error the_key s signing prior item reply e state some where_due =
    let now = begun signing item.feedback in
    let P : Option Building → Type 0 = λ r. StepsTo the_key s now prior (step_reply s now prior item.feedback r) (Err e) state in
    subst P (sym some) (step_failed the_key s now prior item.feedback reply e state (is_due now) where_due)

-- whether a reply is signed, as it was tested
pub where_is : {K : Type 0} (the_key : K → TsigKey) (s : Signer) (signing which : Signing) (prior : Option (List ℕ)) (reply : Building) (result : Result Building ServiceError) (state : PostprocessingState K) (due : Bool)
    → which ≡ signing → is_due which ≡ due → SignsWhere due the_key s signing prior reply result state → SignsWhere (is_due signing) the_key s signing prior reply result state
where_is the_key s signing which prior reply result state due same is where_due =
    let P : Bool → Type 0 = λ d. SignsWhere d the_key s signing prior reply result state in
    subst P (sym (sym (ap is_due same) ∙ is)) where_due
