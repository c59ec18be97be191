-- A transfer from the request on.
use Rattle.std.proofs.Common.{◌≡◌, ℕ, ◌<◌, true, false, ◌&&◌, List, [], ◌∷◌, ◌++◌, length, append-nil, refl, sym, ap, ◌∙◌, subst, ◌⊎◌, inl, inr, Option, IsSome, Result, Ok, Err}
use Rattle.std.proofs.lemmas.Bool.{lt-leb}
use Rattle.xfr_services.specs.declared.services.ServiceError.TheVariants as service
use Rattle.dns_wire.specs.declared.builder.PushError.TheVariants.{ShortBuf, CountOverflow}
use Rattle.dns_wire.specs.declared.builder.PushError.TheVariants as push
use Rattle.dns_wire.specs.declared.message.ShortMessage.{ShortMessage}
use Rattle.zone_model.specs.Commits.{Commit}
use Rattle.zone_reads.specs.Session.{Session, rolled_back}
use Rattle.xfr_course.specs.Outcome.{NoSoa, Ended, LinkFault, Short, Primary}
use Rattle.xfr_course.specs.Courses.{has_header}
use Rattle.xfr_client.specs.SoFar.{Asking, asked_octets, CanAsk, CantAsk}
use Rattle.xfr_client.specs.Standing.{ClientState, Stands}
use Rattle.xfr_outcomes.specs.Refusals.{of_link}
use Rattle.zone_devices.specs.Links.{LinkLists, LinkWentOn}
use Rattle.xfr_server.specs.Items.{Sending}
use Rattle.zone_sync.specs.Serving.{SendsAll, ServedBy, RepliedTo, IsServed}
use Rattle.zone_sync.specs.LinkTransfers.{RequestsEnded, IsEnded, Serves, EndsSo, ComesAfter, Asks, SyncSays}
use Rattle.xfr_client.specs.Transfers.{HasShort, ComesLater}
use Rattle.zone_devices.specs.declared.links.LinkError.{LinkError}
use Rattle.zone_devices.specs.declared.links.LinkError.TheVariants as links
use Rattle.xfr_outcomes.specs.declared.outcome.SyncOk.{SyncOk}
use Rattle.xfr_outcomes.specs.declared.outcome.SyncError.{SyncError}
use Rattle.xfr_outcomes.specs.declared.outcome.SyncError.TheVariants as why
use Rattle.xfr_client.proofs.Clients.{made_rolled}
use Rattle.zone_sync.proofs.Passing.{nothing_yet, link_on}
use Rattle.zone_sync.proofs.Replies.{err_same}
use Rattle.zone_sync.proofs.Serving.{replied_to, served_headed, served_headless}
use Rattle.xfr_client.proofs.Unasked.{EndsBefore, ends_before, at_rest}

-- ---- no reply was taken

says : (Sends : List ℕ → Option (List Sending) → Type 0) (a : Asking) (longest : ℕ) (old new : Option LinkLists) (before : List Commit) (s : Session) (e : SyncError) (asked heard sent : List (List ℕ)) → LinkWentOn old new asked heard sent [] → Asks a longest asked heard (Err e)
    → IsServed Sends heard sent [] (Err e) → EndsBefore e → s.current ≡ a.base → ((x : ShortMessage) → e ≡ why.Short x → HasShort heard × (sent ≡ [])) → (e ≡ why.Ended → IsEnded heard new) → SyncSays Sends a longest old new before before s (Err e)
says Sends a longest old new before s e asked heard sent link request served ends current short ended = record {
  asked = asked;
  heard = heard;
  sent = sent;
  replies = [];
  link = link;
  request = request;
  served = served;
  transfers = ends_before a s before before e ends (at_rest a s before current);
  short = λ x h. inl (short x (err_same e (why.Short x) h));
  ended = λ h. ended (err_same e why.Ended h);
}

-- the request isn't made
not_made_so : (Sends : List ℕ → Option (List Sending) → Type 0) (a : Asking) (longest : ℕ) (old : Option LinkLists) (before : List Commit) (s : Session) (e : SyncError) → CantAsk a longest e → s.current ≡ a.base → SyncSays Sends a longest old old before before s (Err e)
not_made_so Sends a longest old before s why.Memory h c = says Sends a longest old old before s why.Memory [] [] [] (nothing_yet old) (inr (tt, refl, refl)) (refl, refl) tt c (λ x k. absurd (cc k)) (λ k. absurd (cc k))
not_made_so Sends a longest old before s why.NoSoa h c = says Sends a longest old old before s why.NoSoa [] [] [] (nothing_yet old) (inr (h, refl, refl)) (refl, refl) tt c (λ x k. absurd (cc k)) (λ k. absurd (cc k))
not_made_so Sends a longest old before s (why.Request ShortBuf) h c = says Sends a longest old old before s (why.Request ShortBuf) [] [] [] (nothing_yet old) (inr (h, refl, refl)) (refl, refl) tt c (λ x k. absurd (cc k)) (λ k. absurd (cc k))
not_made_so Sends a longest old before s (why.Request CountOverflow) h c = absurd h
not_made_so Sends a longest old before s (why.Request push.Memory) h c = absurd h
not_made_so Sends a longest old before s why.LinkFault h c = absurd h
not_made_so Sends a longest old before s why.Ended h c = absurd h
not_made_so Sends a longest old before s (why.Short x) h c = absurd h
not_made_so Sends a longest old before s (why.Primary x) h c = absurd h
not_made_so Sends a longest old before s why.TooManyMessages h c = absurd h
not_made_so Sends a longest old before s (why.Tsig e) h c = absurd h
not_made_so Sends a longest old before s why.OtherAnswer h c = absurd h
not_made_so Sends a longest old before s (why.Xfr e) h c = absurd h
not_made_so Sends a longest old before s (why.Iteration e) h c = absurd h
not_made_so Sends a longest old before s (why.Update e) h c = absurd h
not_made_so Sends a longest old before s why.VersionsExhausted h c = absurd h

pub not_made : (Sends : List ℕ → Option (List Sending) → Type 0) (a : Asking) (longest most : ℕ) (old : Option LinkLists) (before : List Commit) (s : Session) (e : SyncError) → most ≡ longest → CantAsk a most e → s.current ≡ a.base → SyncSays Sends a longest old old before before s (Err e)
not_made Sends a longest most old before s e m h c = not_made_so Sends a longest old before s e (subst (λ n. CantAsk a n e) m h) c

-- the link fails before it hands the request
pub not_carried : (Sends : List ℕ → Option (List Sending) → Type 0) (a : Asking) (longest : ℕ) (old new : Option LinkLists) (before : List Commit) (s : Session) (x : LinkError) (asked : List (List ℕ)) → CanAsk a longest → LinkWentOn old new asked [] [] [] → (asked ≡ asked_octets a ∷ []) ⊎ (asked ≡ []) → s.current ≡ a.base
    → SyncSays Sends a longest old new before before s (Err (of_link x))
not_carried Sends a longest old new before s links.Failed asked can l r c =
    says Sends a longest old new before s why.LinkFault asked [] [] l (either r) (refl, refl) tt c (λ x k. absurd (cc k)) (λ k. absurd (cc k))
  where
    either : (asked ≡ asked_octets a ∷ []) ⊎ (asked ≡ []) → Asks a longest asked [] (Err why.LinkFault)
    either (inl h) = inl (can, tt, h)
    either (inr h) = inr (can, h, refl)
not_carried Sends a longest old new before s links.Memory asked can l r c =
    says Sends a longest old new before s why.Memory asked [] [] l (either r) (refl, refl) tt c (λ x k. absurd (cc k)) (λ k. absurd (cc k))
  where
    either : (asked ≡ asked_octets a ∷ []) ⊎ (asked ≡ []) → Asks a longest asked [] (Err why.Memory)
    either (inl h) = inl (can, tt, h)
    either (inr h) = inr (tt, h, refl)

-- it ends
pub not_handed : (Sends : List ℕ → Option (List Sending) → Type 0) (a : Asking) (longest : ℕ) (old new : Option LinkLists) (before : List Commit) (s : Session) (asked : List (List ℕ)) → CanAsk a longest → LinkWentOn old new asked [] [] [] → asked ≡ asked_octets a ∷ [] → s.current ≡ a.base → RequestsEnded new
    → SyncSays Sends a longest old new before before s (Err why.Ended)
not_handed Sends a longest old new before s asked can l r c e = says Sends a longest old new before s why.Ended asked [] [] l (inl (can, tt, r)) (refl, refl) tt c (λ x k. absurd (cc k)) (λ k. e)

-- it hands on what is no message
pub headless : (m : List ℕ) → length m < 12 → has_header m ≡ false
headless m h = lt-leb 12 (length m) h

pub no_message : (Sends : List ℕ → Option (List Sending) → Type 0) (a : Asking) (longest : ℕ) (old new : Option LinkLists) (before : List Commit) (s : Session) (x : ShortMessage) (asked : List (List ℕ)) (heard : List ℕ) → CanAsk a longest → LinkWentOn old new asked (heard ∷ []) [] [] → asked ≡ asked_octets a ∷ [] → s.current ≡ a.base
    → has_header heard ≡ false → SyncSays Sends a longest old new before before s (Err (why.Short x))
no_message Sends a longest old new before s x asked heard can l r c none =
    says Sends a longest old new before s (why.Short x) asked (heard ∷ []) [] l (inl (can, tt, r)) (served_headless Sends heard [] [] (Err (why.Short x)) none (refl, refl)) tt c (λ y k. (ap (λ b. b && true) none, refl)) (λ k. absurd (cc k))

-- the primary fails, or the link as it replies
pub not_served : (Sends : List ℕ → Option (List Sending) → Type 0) (a : Asking) (longest : ℕ) (old told new : Option LinkLists) (before : List Commit) (s : Session) (e : SyncError) (asked : List (List ℕ)) (heard : List ℕ) → CanAsk a longest → LinkWentOn old told asked (heard ∷ []) [] [] → asked ≡ asked_octets a ∷ [] → s.current ≡ a.base
    → has_header heard ≡ true → Serves (Sends heard) told new (Err e) → SyncSays Sends a longest old new before before s (Err e)
not_served Sends a longest old told new before s e asked heard can l r c whole k = ends_so e k.by
  where
    on : LinkWentOn old new (asked ++ []) (heard ∷ []) k.sent []
    on = link_on old told new asked (heard ∷ []) [] [] [] [] k.sent [] l k.link

    is : asked ++ [] ≡ asked_octets a ∷ []
    is = append-nil asked ∙ r

    so : (e : SyncError) → RepliedTo (Sends heard) k.sent (Err e) → IsServed Sends (heard ∷ []) k.sent [] (Err e)
    so e by = served_headed Sends heard k.sent [] (Err e) whole by

    ends_so : (e : SyncError) → ServedBy (Sends heard) k.sent (Err e) → SyncSays Sends a longest old new before before s (Err e)
    ends_so why.LinkFault by = says Sends a longest old new before s why.LinkFault (asked ++ []) (heard ∷ []) k.sent on (inl (can, tt, is)) (so why.LinkFault by) tt c (λ x k. absurd (cc k)) (λ k. absurd (cc k))
    ends_so why.Memory by = says Sends a longest old new before s why.Memory (asked ++ []) (heard ∷ []) k.sent on (inl (can, tt, is)) (so why.Memory by) tt c (λ x k. absurd (cc k)) (λ k. absurd (cc k))
    ends_so (why.Primary service.InternalError) by = says Sends a longest old new before s (why.Primary service.InternalError) (asked ++ []) (heard ∷ []) k.sent on (inl (can, tt, is)) (so (why.Primary service.InternalError) by) tt c (λ x k. absurd (cc k)) (λ k. absurd (cc k))
    ends_so (why.Primary service.Memory) by = absurd by
    ends_so (why.Request x) by = absurd by
    ends_so why.NoSoa by = absurd by
    ends_so why.Ended by = absurd by
    ends_so (why.Short x) by = absurd by
    ends_so why.TooManyMessages by = absurd by
    ends_so (why.Tsig x) by = absurd by
    ends_so why.OtherAnswer by = absurd by
    ends_so (why.Xfr x) by = absurd by
    ends_so (why.Iteration x) by = absurd by
    ends_so (why.Update x) by = absurd by
    ends_so why.VersionsExhausted by = absurd by

-- an answer of a reply isn't one of a request that can't be made
later_after : (answer : Result SyncOk SyncError) → ComesLater answer → ComesAfter answer
later_after (Err why.NoSoa) l = absurd l
later_after (Err (why.Request x)) l = absurd l
later_after (Ok x) l = tt
later_after (Err why.LinkFault) l = tt
later_after (Err why.Ended) l = tt
later_after (Err (why.Short x)) l = tt
later_after (Err (why.Primary x)) l = tt
later_after (Err why.TooManyMessages) l = tt
later_after (Err (why.Tsig x)) l = tt
later_after (Err why.OtherAnswer) l = tt
later_after (Err (why.Xfr x)) l = tt
later_after (Err (why.Iteration x)) l = tt
later_after (Err (why.Update x)) l = tt
later_after (Err why.VersionsExhausted) l = tt
later_after (Err why.Memory) l = tt

-- the replies come
pub replied : (Sends : List ℕ → Option (List Sending) → Type 0) (a : Asking) (longest : ℕ) (old told mid new : Option LinkLists) (before later : List Commit) (s : Session) (answer : Result SyncOk SyncError) (asked : List (List ℕ)) (heard : List ℕ)
    → CanAsk a longest → LinkWentOn old told asked (heard ∷ []) [] [] → asked ≡ asked_octets a ∷ [] → has_header heard ≡ true → Serves (Sends heard) told mid (Ok tt) → EndsSo a mid new before later s answer → SyncSays Sends a longest old new before later s answer
replied Sends a longest old told mid new before later s answer asked heard can l r whole v k = record {
  asked = (asked ++ []) ++ [];
  heard = heard ∷ [];
  sent = v.sent ++ [];
  replies = k.taken;
  link = link_on old mid new (asked ++ []) (heard ∷ []) v.sent [] [] [] [] k.taken (link_on old told mid asked (heard ∷ []) [] [] [] [] v.sent [] l v.link) k.link;
  request = inl (can, later_after answer k.later, append-nil (asked ++ []) ∙ append-nil asked ∙ r);
  served = served_headed Sends heard (v.sent ++ []) k.taken answer whole (replied_to (Sends heard) (v.sent ++ []) answer k.later (subst (SendsAll (Sends heard)) (sym (append-nil v.sent)) v.by));
  transfers = k.transfers;
  short = λ x h. inr (k.short x h);
  ended = k.ended;
}

-- a rollback at the end changes nothing of it
pub rolled_says : (Sends : List ℕ → Option (List Sending) → Type 0) (a : Asking) (longest : ℕ) (old new : Option LinkLists) (before later : List Commit) (s t : Session) (answer : Result SyncOk SyncError) → s ≡ rolled_back t → SyncSays Sends a longest old new before later t answer → SyncSays Sends a longest old new before later s answer
rolled_says Sends a longest old new before later s t answer e k = record {
  asked = k.asked;
  heard = k.heard;
  sent = k.sent;
  replies = k.replies;
  link = k.link;
  request = k.request;
  served = k.served;
  transfers = record { versions = k.transfers.versions; spelt = k.transfers.spelt; made = made_rolled a.base before later s t k.transfers.versions e k.transfers.made; answers = k.transfers.answers };
  short = k.short;
  ended = k.ended;
}

pub under_way : (a : Asking) (c : ClientState) (s : Session) (before handles : List Commit) → Stands c s a [] before handles → IsSome c.exchange
under_way a c s before handles st = subst IsSome (sym st.under_way) refl
