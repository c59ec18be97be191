-- What the service that signs sends, item by item.
use Rattle.std.proofs.Common.{◌≡◌, ℕ, List, [], ◌∷◌, Option, Some, None, refl, sym, ap, ◌∙◌}
use Rattle.std.specs.Prelude.{◌≢◌, Ok, Err, option_map}
use Rattle.dns_name.specs.Names.{fold}
use Rattle.tsig_port.specs.Tsig.{TsigKey, mac_in}
use Rattle.tsig_port.specs.ServerCheck.{Keys}
use Rattle.tsig_port.specs.States.{ServerStands}
use Rattle.xfr_services.specs.Items.{Sending, NextOf, Gives, Calls}
use Rattle.xfr_services.specs.Items.Sending.{Given, Failed}
use Rattle.xfr_signing.specs.Signing.{Signer, Signs, StepsTo, begun, step_item, signed_items}
use Rattle.xfr_signing.specs.SignedStreams.{GivesSigned, SignedLeft}
use Rattle.xfr_signing.specs.SignedServing.{SendsSigned, accepted_request, signer_for}
use Rattle.xfr_services.specs.declared.requests.Request.{Request}
use Rattle.xfr_services.specs.declared.requests.TransportSpecificContext.{TransportSpecificContext}
use Rattle.xfr_services.specs.declared.services.CallResult.{CallResult}
use Rattle.xfr_services.specs.declared.services.ServiceError.{ServiceError}
use Rattle.xfr_services.specs.declared.services.ServiceError.TheVariants.{InternalError, Memory}
use Rattle.xfr_signing.specs.declared.signing.PostprocessingState.{PostprocessingState}
use Rattle.xfr_signing.specs.declared.signing.Signing.{Signing}
use Rattle.xfr_signing.specs.declared.signing.Signing.TheVariants.{First}
use Rattle.xfr_signing.specs.declared.signing.TsigStream.TheVariants.{Signed}

-- what the next service's stream gives, signed, once its first item was
signed_behind : {S K : Type 0} (LeftOf : S → List Sending → Type 0) (the_key : K → TsigKey) (old new : S) (state after : PostprocessingState K) (items : List Sending) (item : CallResult) (sending : Sending)
    → (g : GivesSigned LeftOf the_key old state items) → (found : (rest : List Sending) × (g.given ≡ Given item ∷ rest) × LeftOf new rest)
    → (step_item g.signer g.signing g.prior item).sending ≡ sending
    → Signs the_key after g.signer (step_item g.signer g.signing g.prior item).signing (step_item g.signer g.signing g.prior item).prior
    → (rest : List Sending) × (items ≡ sending ∷ rest) × GivesSigned LeftOf the_key new after rest
signed_behind LeftOf the_key old new state after items item sending g found is signs =
    let step = step_item g.signer g.signing g.prior item in
    let rest = signed_items g.signer step.signing step.prior found.0 in (
      rest,
      g.signed ∙ ap (signed_items g.signer g.signing g.prior) found.1 ∙ ap (λ s. s ∷ rest) is,
      record { given = found.0; signer = g.signer; signing = step.signing; prior = step.prior; left = found.2; signs = signs; signed = refl },
    )

module _ {S K : Type 0} (LeftOf : S → List Sending → Type 0) (the_key : K → TsigKey) (old new : S) (state after : PostprocessingState K) (items : List Sending) (item : CallResult) (g : GivesSigned LeftOf the_key old state items)
    (next : (given : List Sending) → LeftOf old given → (rest : List Sending) × (given ≡ Given item ∷ rest) × LeftOf new rest) where
  -- the next service's item, signed
  pub next_made : (made : CallResult)
      → ((s : Signer) (signing : _) (prior : Option (List ℕ)) → Signs the_key state s signing prior → StepsTo the_key s (begun signing item.feedback) prior (step_item s signing prior item) (Ok made) after)
      → NextOf (λ xs. GivesSigned LeftOf the_key new after xs) items (Some (Ok made))
  next_made made steps =
      let to = steps g.signer g.signing g.prior g.signs in
      signed_behind LeftOf the_key old new state after items item (Given made) g (next g.given g.left) to.0 to.1

  -- .. which has no room for that
  pub next_refused : ((s : Signer) (signing : _) (prior : Option (List ℕ)) → Signs the_key state s signing prior → StepsTo the_key s (begun signing item.feedback) prior (step_item s signing prior item) (Err InternalError) after)
      → NextOf (λ xs. GivesSigned LeftOf the_key new after xs) items (Some (Err InternalError))
  next_refused steps =
      let to = steps g.signer g.signing g.prior g.signs in
      signed_behind LeftOf the_key old new state after items item Failed g (next g.given g.left) to.0 to.1

-- .. which is lost for want of memory: there was one
pub some_item : {S K : Type 0} (LeftOf : S → List Sending → Type 0) (the_key : K → TsigKey) (old new : S) (state : PostprocessingState K) (items : List Sending) (item : CallResult)
    → GivesSigned LeftOf the_key old state items
    → ((given : List Sending) → LeftOf old given → (rest : List Sending) × (given ≡ Given item ∷ rest) × LeftOf new rest)
    → items ≢ []
some_item LeftOf the_key old new state items item g next none =
    let found = next g.given g.left in
    let first : signed_items g.signer g.signing g.prior (Given item ∷ found.0) ≡ [] = sym (g.signed ∙ ap (signed_items g.signer g.signing g.prior) found.1) ∙ none in
    cc

-- none is signed where none is given
some_signed : (s : Signer) (signing : Signing) (prior : Option (List ℕ)) (given items : List Sending) → items ≡ signed_items s signing prior given → given ≢ [] → items ≢ []
some_signed s signing prior [] items is some none = some refl
some_signed s signing prior (Failed ∷ more) items is some none = let e = sym is ∙ none in cc
some_signed s signing prior (Given item ∷ more) items is some none = let e = sym is ∙ none in cc

-- the next service's stream can't make one, or loses one
pub next_failed : {S K : Type 0} (LeftOf : S → List Sending → Type 0) (the_key : K → TsigKey) (e : ServiceError) (old new : S) (state : PostprocessingState K) (items : List Sending)
    → GivesSigned LeftOf the_key old state items
    → ((given : List Sending) → LeftOf old given → NextOf (LeftOf new) given (Some (Err e)))
    → NextOf (λ xs. GivesSigned LeftOf the_key new state xs) items (Some (Err e))
next_failed LeftOf the_key InternalError old new state items g next =
    let found = next g.given g.left in
    let rest = signed_items g.signer g.signing g.prior found.0 in (
      rest,
      g.signed ∙ ap (signed_items g.signer g.signing g.prior) found.1,
      record { given = found.0; signer = g.signer; signing = g.signing; prior = g.prior; left = found.2; signs = g.signs; signed = refl },
    )
next_failed LeftOf the_key Memory old new state items g next =
    let ended = next g.given g.left in (
      some_signed g.signer g.signing g.prior g.given items g.signed ended.0,
      record { given = []; signer = g.signer; signing = g.signing; prior = g.prior; left = ended.1; signs = g.signs; signed = refl },
    )

-- ---- the call

-- the state that signs the replies to a request
pub begins : {M K : Type 0} (the_key : K → TsigKey) (r : Request M) (state : PostprocessingState K) → ServerStands the_key state.sequence (mac_in r.message) []
    → state.received ≡ r.message → state.now ≡ r.at → state.signing ≡ First → Signs the_key state (signer_for r (the_key state.sequence.key)) First None
begins the_key r state stands received at which =
    record { macs = []; stands = stands; last = refl; key = refl; received = received; at = at; which = which }

-- the next service's stream, signed
pub call_gives : {M S K : Type 0} (the_key : K → TsigKey) (keys : Keys) (Next : Request (Option K) → Option (List Sending) → Type 0) (LeftOf : S → List Sending → Type 0)
    (r : Request M) (known : Option K) (state : PostprocessingState K) (stream : S)
    → ServerStands the_key state.sequence (mac_in r.message) [] → state.received ≡ r.message → state.now ≡ r.at → state.signing ≡ First
    → option_map the_key known ≡ keys (fold (the_key state.sequence.key).name) (the_key state.sequence.key).algorithm
    → Gives (Next (accepted_request r (the_key state.sequence.key) known)) LeftOf stream
    → Gives (SendsSigned the_key keys Next r (the_key state.sequence.key)) (SignedLeft LeftOf the_key) (Signed stream state)
call_gives the_key keys Next LeftOf r known state stream stands received at which is_known g =
    let signer = signer_for r (the_key state.sequence.key) in
    record {
      items = signed_items signer First None g.items;
      sent = record { known = known; is_known = is_known; given = Some g.items; next = g.sent; signed = refl };
      left = record { given = g.items; signer = signer; signing = First; prior = None; left = g.left; signs = begins the_key r state stands received at which; signed = refl };
    }

-- .. or where it can't reply
pub call_fails : {M S T K : Type 0} (the_key : K → TsigKey) (keys : Keys) (Next : Request (Option K) → Option (List Sending) → Type 0) (LeftOf : S → List Sending → Type 0) (Left : T → List Sending → Type 0)
    (r : Request M) (key : TsigKey) (known : Option K) (e : ServiceError) → option_map the_key known ≡ keys (fold key.name) key.algorithm
    → Calls (Next (accepted_request r key known)) LeftOf (Err e) → Calls (SendsSigned the_key keys Next r key) Left (Err e)
call_fails the_key keys Next LeftOf Left r key known InternalError is_known none =
    record { known = known; is_known = is_known; given = None; next = none; signed = refl }
call_fails the_key keys Next LeftOf Left r key known Memory is_known u = tt

-- a request with these fields
pub request_is : {T : Type 0} (q : Request T) (message : List ℕ) (transport : TransportSpecificContext) (at : ℕ) (metadata : T) (reserved : ℕ)
    → q.message ≡ message → q.transport ≡ transport → q.at ≡ at → q.metadata ≡ metadata → q.reserved ≡ reserved
    → q ≡ record { message = message; transport = transport; at = at; metadata = metadata; reserved = reserved }
request_is q message transport at metadata reserved a b c d e =
    ap (λ x. record q { message = x }) a
    ∙ ap (λ x. record q { message = message; transport = x }) b
    ∙ ap (λ x. record q { message = message; transport = transport; at = x }) c
    ∙ ap (λ x. record q { message = message; transport = transport; at = at; metadata = x }) d
    ∙ ap (λ x. record { message = message; transport = transport; at = at; metadata = metadata; reserved = x }) e
