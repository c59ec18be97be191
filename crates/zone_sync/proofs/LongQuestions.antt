-- The cause of a primary's error.
use Rattle.std.proofs.Common.{◌≡◌, ℕ, Bool, true, false, List, [], ◌∷◌, ◌++◌, refl, sym, ap, ◌∙◌, subst, inl, inr, Option, Some, None, Result, Ok, Err}
use Rattle.tsig_port.specs.ServerCheck.{Keys, verdict}
use Rattle.xfr_server.specs.Items.{Sending, Gives, Calls}
use Rattle.xfr_signing.specs.Failing.{fails, IsTooLong}
use Rattle.xfr_services.specs.LongReplies.{HasLongQuestions, FailsOnlyWhereLong}
use Rattle.xfr_services.specs.declared.services.ServiceError.{ServiceError}
use Rattle.xfr_services.specs.declared.services.ServiceError.TheVariants as service
use Rattle.xfr_course.specs.Courses.{has_header}
use Rattle.xfr_client.specs.SoFar.{Asking, CantAsk}
use Rattle.xfr_client.specs.Transfers.{ComesLater}
use Rattle.zone_devices.specs.Links.{LinkLists, LinkWentOn}
use Rattle.zone_devices.specs.declared.links.LinkError.{LinkError}
use Rattle.zone_devices.specs.declared.links.LinkError.TheVariants as links
use Rattle.zone_sync.specs.Serving.{request_at, SentOf, FailsAfter, HandedTo, IsServed}
use Rattle.zone_sync.specs.LinkTransfers.{Serves, SendsItems}
use Rattle.zone_sync.specs.LongQuestions.{WasHandedLong, WasHandedTooLong}
use Rattle.xfr_outcomes.specs.Refusals.{of_link, of_service}
use Rattle.xfr_outcomes.specs.declared.outcome.SyncOk.{SyncOk}
use Rattle.xfr_outcomes.specs.declared.outcome.SyncError.{SyncError}
use Rattle.xfr_outcomes.specs.declared.outcome.SyncError.TheVariants as why
use Rattle.zone_sync.proofs.Passing.{link_on}

module _ (Sends : List ℕ → Option (List Sending) → Type 0) (keys : Keys) (at : ℕ)
    (cause : (m : List ℕ) (sent : Option (List Sending)) → Sends m sent → fails sent ≡ true → IsTooLong (request_at m at) (verdict keys at m)) where
  failed : (m : List ℕ) (sent : List (List ℕ)) → FailsAfter (Sends m) sent → IsTooLong (request_at m at) (verdict keys at m)
  failed m sent (inl k) = cause m None k.0 refl
  failed m sent (inr k) = cause m (Some k.items) k.sends (ap (λ s. s.fails) k.until)

  by_header : (m : List ℕ) (sent replies : List (List ℕ)) (e : ServiceError) (b : Bool) → has_header m ≡ b → HandedTo b (Sends m) sent replies (Err (why.Primary e)) → WasHandedTooLong keys at (m ∷ [])
  by_header m sent replies e true headed k = record { message = m; handed = refl; headed = headed; long = failed m sent k }
  by_header m sent replies e false headed k = absurd k

  -- the primary was asked, with one message that has a header
  pub was_long : (heard sent replies : List (List ℕ)) (e : ServiceError) → IsServed Sends heard sent replies (Err (why.Primary e)) → WasHandedTooLong keys at heard
  was_long [] sent replies e k = absurd k
  was_long (m ∷ []) sent replies e k = by_header m sent replies e (has_header m) refl k
  was_long (m ∷ n ∷ more) sent replies e k = absurd k

-- ---- whichever service the primary is

-- an answer has one error
abbrev error_or : {T : Type 0} → SyncError → Result T SyncError → SyncError
error_or d (Ok x) = d
error_or d (Err e) = e

pub the_error : {T : Type 0} (answer : Result T SyncError) (e d : SyncError) → answer ≡ Err e → answer ≡ Err d → e ≡ d
the_error answer e d is h = ap (error_or e) (sym is ∙ h)

-- it fails before it gives a stream
pub long_at_once : {S : Type 0} (LeftOf : S → List Sending → Type 0) (message : List ℕ) (x e : ServiceError) → Calls {S = S} (FailsOnlyWhereLong message) LeftOf (Err x) → of_service x ≡ why.Primary e → HasLongQuestions message
long_at_once LeftOf message service.InternalError e only h = only refl
long_at_once LeftOf message service.Memory e only h = absurd (cc h)

-- .. or in its stream
one_fails : (message : List ℕ) (items : List Sending) (sent : List (List ℕ)) (e : ServiceError) → FailsOnlyWhereLong message (Some items) → SentOf items sent (Err (why.Primary e)) → HasLongQuestions message
one_fails message items sent service.InternalError only by = only (ap (λ s. s.fails) by)
one_fails message items sent service.Memory only by = absurd by

pub long_in_stream : {S : Type 0} (LeftOf : S → List Sending → Type 0) (stream : S) (message : List ℕ) (old new : Option LinkLists) (answer : Result (Unit {0}) SyncError) (e : ServiceError) → Gives (FailsOnlyWhereLong message) LeftOf stream
    → ((items : List Sending) → LeftOf stream items → SendsItems items old new answer) → answer ≡ Err (why.Primary e) → HasLongQuestions message
long_in_stream LeftOf stream message old new answer e g sends h =
    let k = sends g.items g.left in
    one_fails message g.items k.sent e g.sent (subst (SentOf g.items k.sent) h k.by)

-- the link handed the request before
pub handed_long : (Sends : Option (List Sending) → Type 0) (old told new : Option LinkLists) (asked : List (List ℕ)) (heard : List ℕ) (answer : Result (Unit {0}) SyncError) → LinkWentOn old told asked (heard ∷ []) [] [] → has_header heard ≡ true → Serves Sends told new answer
    → HasLongQuestions heard → WasHandedLong old new
handed_long Sends old told new asked heard answer l whole k long = record {
  asked = asked ++ [];
  message = heard;
  sent = k.sent;
  link = link_on old told new asked (heard ∷ []) [] [] [] [] k.sent [] l k.link;
  headed = whole;
  long = long;
}

-- no other part of a transfer answers with a primary's error
pub not_unmade : {P : Type 0} (a : Asking) (most : ℕ) (x : SyncError) (e : ServiceError) → CantAsk a most x → x ≡ why.Primary e → P
not_unmade a most x e cant h = absurd (subst (CantAsk a most) h cant)

pub not_of_link : {P : Type 0} (x : LinkError) (e : ServiceError) → of_link x ≡ why.Primary e → P
not_of_link links.Failed e h = absurd (cc h)
not_of_link links.Memory e h = absurd (cc h)

pub not_of_replies : {P : Type 0} (answer : Result SyncOk SyncError) (e : ServiceError) → ComesLater answer → answer ≡ Err (why.Primary e) → P
not_of_replies answer e later h = absurd (subst ComesLater h later)
