-- What a push to a transfer's batcher answers.
use Rattle.std.proofs.Common.{◌≡◌, ℕ, Bool, true, false, true≢false, List, [], ◌∷◌, refl, sym, ap, ◌∙◌, subst}
use Rattle.std.specs.Prelude.{◌&&◌, not, All, Result, Ok, Err}
use Rattle.std.proofs.lemmas.List.Elements.{All-head}
use Rattle.dns_rdata.specs.Records.{Record}
use Rattle.dns_wire.specs.Wire.{Building}
use Rattle.xfr_batch.specs.Batches.{message_with, has_room, Ending, is_last, Batch, Batching}
use Rattle.xfr_batch.specs.Batches.Ending.{Full, NoRoomFor, Finished}
use Rattle.xfr_batch.specs.BatchCalls.{HandsOn, BeginsAlike, ByPush, ByFinish, NotPushed as IsNotPushed, Pushes, Finishes}
use Rattle.xfr_batch.specs.BatchCalls.NotPushed.{NoRoom, NoMemory, Refused}
use Rattle.xfr_batch.specs.ReadyMessages.{Kept}
use Rattle.xfr_batch.specs.XfrBatches.{transfer_begins, transfer_is_full, is_one_of_many, TransferReadies, batch_error_of, AnswersPush}
use Rattle.xfr_batch.specs.declared.batcher.PushResult.{PushResult}
use Rattle.xfr_batch.specs.declared.batcher.PushResult.TheVariants.{PushedAndReadyForMore, PushedAndLimitReached, NotPushedMessageFull, Retry}
use Rattle.xfr_batch.specs.declared.xfr.BatchReadyError.{BatchReadyError}
use Rattle.xfr_batch.specs.declared.xfr.BatchReadyError.TheVariants.{PushError as NotPushed, SendError, MustFitInSingleMessage, Memory}
use Rattle.xfr_batch.proofs.BatchRooms.{begins_after, room_before}
use Rattle.xfr_batch.proofs.XfrReady.{ready_are}

-- ---- what stays the same while messages are handed on

abbrev Hands : List ℕ → Kept → List (Batch Kept) → Kept → Type 0
Hands q s batches t = HandsOn (λ x. transfer_begins x q) TransferReadies s batches t

begin_alike : (q : List ℕ) → BeginsAlike (λ s. transfer_begins s q) TransferReadies
begin_alike q s t m last taken = ap (λ k. transfer_begins k q) taken.1

-- ---- where one message is all that may be sent

not_last : (r : Record) (how : Ending) → ByPush r how → is_last how ≡ false
not_last r Full by = refl
not_last r (NoRoomFor next) by = refl
not_last r Finished by = absurd by

one_of_many : (s : Kept) (last : Bool) → s.must_fit ≡ true → last ≡ false → is_one_of_many s last ≡ true
one_of_many s last must last_is = ap (λ b. b && not last) must ∙ ap (λ b. true && not b) last_is

must_fit_then : (s : Kept) (last : Bool) → is_one_of_many s last ≡ true → s.must_fit ≡ true
must_fit_then s last one = at s.must_fit one
  where
    at : (must : Bool) → (must && not last) ≡ true → must ≡ true
    at true e = refl
    at false e = e

none_ready_by_push : (q : List ℕ) (r : Record) (s : Kept) (batches : List (Batch Kept)) (t : Kept) → All (λ (b : Batch Kept). ByPush r b.ending) batches → Hands q s batches t
    → s.must_fit ≡ true → t ≡ s
none_ready_by_push q r s [] t by h must = sym h
none_ready_by_push q r s (b ∷ batches) t by h must =
    let ended = not_last r b.ending (All-head (λ (x : Batch Kept). ByPush r x.ending) b batches by) in
    absurd (true≢false (sym (one_of_many s (is_last b.ending) must ended) ∙ h.1.1.0.0))

must_fit_after : (q : List ℕ) (s : Kept) (batches : List (Batch Kept)) (t : Kept) → Hands q s batches t → t.must_fit ≡ s.must_fit
must_fit_after q s batches t h = ap (λ (k : Kept). k.must_fit) (ready_are q s batches t h)

-- ---- the answers

abbrev PushesTo : Record → Batching Kept → List Record → List (Batch Kept) → Result PushResult BatchReadyError → Batching Kept → Type 0
PushesTo r old pushed batches result new = Pushes transfer_begins transfer_is_full TransferReadies (λ e x. x ≡ batch_error_of e) r old pushed batches result new

abbrev has_room_for : Batching Kept → Record → Bool
has_room_for old r = has_room (transfer_begins old.state old.request) (r ∷ [])

refused_as : (room : Bool) (s : Kept) (m : Building) (last : Bool) (e : BatchReadyError) (t : Kept) → TransferReadies s m last (Err e) t → AnswersPush room s.must_fit (Err e)
refused_as room s m last MustFitInSingleMessage t refused = must_fit_then s last refused.0
refused_as room s m last Memory t refused = tt
refused_as room s m last SendError t refused = refused
refused_as room s m last (NotPushed e) t refused = absurd refused

refused_stays : (s : Kept) (m : Building) (last : Bool) (e : BatchReadyError) (t : Kept) → TransferReadies s m last (Err e) t → t ≡ s
refused_stays s m last MustFitInSingleMessage t refused = refused.1
refused_stays s m last Memory t refused = refused.1
refused_stays s m last SendError t refused = absurd refused
refused_stays s m last (NotPushed e) t refused = absurd refused

not_pushed : (r : Record) (old new : Batching Kept) (pushed : List Record) (batches : List (Batch Kept)) (e : BatchReadyError)
    → IsNotPushed transfer_begins transfer_is_full TransferReadies (λ error x. x ≡ batch_error_of error) r old pushed batches e new
    → AnswersPush (has_room_for old r) old.state.must_fit (Err e)
not_pushed r old new pushed batches e (NoRoom from room closed mv) =
    let P : BatchReadyError → Type 0 = λ x. AnswersPush (has_room_for old r) old.state.must_fit (Err x) in
    let begins = begins_after (λ s. transfer_begins s old.request) TransferReadies (begin_alike old.request) old.state mv.handed new.state mv.hands_on in
    let none = ap (λ b. has_room b (r ∷ [])) (sym begins) ∙ ap (λ q. has_room (transfer_begins new.state q) (r ∷ [])) (sym mv.same_request) ∙ room in
    subst P (sym from) (none, refl)
not_pushed r old new pushed batches e (NoMemory from mv) =
    let P : BatchReadyError → Type 0 = λ x. AnswersPush (has_room_for old r) old.state.must_fit (Err x) in
    subst P (sym from) tt
not_pushed r old new pushed batches e (Refused l) =
    let P : Bool → Type 0 = λ must. AnswersPush (has_room_for old r) must (Err e) in
    let m = message_with (transfer_begins l.lost.state old.request) l.lost.records in
    subst P (must_fit_after old.request old.state l.handed l.lost.state l.hands_on) (refused_as (has_room_for old r) l.lost.state m (is_last l.lost.ending) e new.state l.refused)

pub answers_push : (old new : Batching Kept) (pushed : List Record) (batches : List (Batch Kept)) (r : Record) (result : Result PushResult BatchReadyError)
    → PushesTo r old pushed batches result new → AnswersPush (has_room_for old r) old.state.must_fit result
answers_push old new pushed batches r (Ok PushedAndReadyForMore) g =
    room_before transfer_begins transfer_is_full TransferReadies (λ e x. x ≡ batch_error_of e) r old new pushed batches (begin_alike old.request) g
answers_push old new pushed batches r (Ok (PushedAndLimitReached m)) g = absurd g
answers_push old new pushed batches r (Ok (NotPushedMessageFull m)) g = absurd g
answers_push old new pushed batches r (Ok Retry) g = absurd g
answers_push old new pushed batches r (Err e) g = not_pushed r old new pushed batches e g

pub single_message : (old new : Batching Kept) (pushed : List Record) (batches : List (Batch Kept)) (r : Record) (result : Result PushResult BatchReadyError)
    → PushesTo r old pushed batches result new → old.state.must_fit ≡ true → new.state ≡ old.state
single_message old new pushed batches r (Ok PushedAndReadyForMore) g must =
    none_ready_by_push old.request r old.state g.moves.handed new.state g.moves.by g.moves.hands_on must
single_message old new pushed batches r (Ok (PushedAndLimitReached m)) g must = absurd g
single_message old new pushed batches r (Ok (NotPushedMessageFull m)) g must = absurd g
single_message old new pushed batches r (Ok Retry) g must = absurd g
single_message old new pushed batches r (Err e) (NoRoom from room closed mv) must = none_ready_by_push old.request r old.state mv.handed new.state mv.by mv.hands_on must
single_message old new pushed batches r (Err e) (NoMemory from mv) must = none_ready_by_push old.request r old.state mv.handed new.state mv.by mv.hands_on must
single_message old new pushed batches r (Err e) (Refused l) must =
    let m = message_with (transfer_begins l.lost.state old.request) l.lost.records in
    refused_stays l.lost.state m (is_last l.lost.ending) e new.state l.refused ∙ none_ready_by_push old.request r old.state l.handed l.lost.state l.by l.hands_on must

-- ---- the end

last_by_finish : (how : Ending) → ByFinish how → is_last how ≡ true
last_by_finish Full by = absurd by
last_by_finish (NoRoomFor next) by = absurd by
last_by_finish Finished by = refl

never_one_of_many : (s : Kept) (last : Bool) → last ≡ true → is_one_of_many s last ≡ true → ⊥
never_one_of_many s last is one = at s.must_fit (sym (ap (λ b. s.must_fit && not b) is) ∙ one)
  where
    at : (must : Bool) → (must && false) ≡ true → ⊥
    at true e = true≢false (sym e)
    at false e = true≢false (sym e)

refused_last : (s : Kept) (m : Building) (last : Bool) (e : BatchReadyError) (t : Kept) → last ≡ true → TransferReadies s m last (Err e) t → e ≡ Memory
refused_last s m last MustFitInSingleMessage t is refused = absurd (never_one_of_many s last is refused.0)
refused_last s m last Memory t is refused = refl
refused_last s m last SendError t is refused = absurd refused
refused_last s m last (NotPushed e) t is refused = absurd refused

pub finish_refused : (old new : Batching Kept) (pushed : List Record) (batches : List (Batch Kept)) (e : BatchReadyError)
    → Finishes transfer_begins transfer_is_full TransferReadies old pushed batches (Err e) new → e ≡ Memory
finish_refused old new pushed batches e l =
    refused_last l.lost.state (message_with (transfer_begins l.lost.state old.request) l.lost.records) (is_last l.lost.ending) e new.state (last_by_finish l.lost.ending l.lost_by) l.refused
