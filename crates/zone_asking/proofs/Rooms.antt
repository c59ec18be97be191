-- Replies whose updates had room in their sets.
use Rattle.std.proofs.Common.{◌≡◌, ℕ, Bool, true, List, [], ◌∷◌, ◌++◌, append_assoc, append-nil, refl, sym, ap, subst, Option, Some, Result, Ok, Err, inl, inr}
use Rattle.zone_model.specs.Commits.{Commit}
use Rattle.zone_reads.specs.Session.{Session, rolled_back}
use Rattle.xfr_client.specs.SoFar.{Asking, client_so_far}
use Rattle.xfr_client.specs.Steps.{numbers_left}
use Rattle.xfr_client.specs.Standing.{ClientState, asking_of, Stands}
use Rattle.xfr_client.specs.Room.{AllHaveRoom, KeepsRoom, reply_updates, ReplyKeepsRoom, ReplyStopsAt}
use Rattle.xfr_outcomes.specs.declared.outcome.SyncOk.{SyncOk}
use Rattle.xfr_outcomes.specs.declared.outcome.SyncError.{SyncError}
use Rattle.xfr_outcomes.specs.declared.outcome.SyncError.TheVariants.{Memory}
use Rattle.xfr_client.proofs.Clients.{made_rolled}
use Rattle.zone_asking.specs.Limiting.{RepliesHaveRoom, LastHadRoom, KeepsSets, AddsToFull}

-- the updates of one reply
abbrev ReplyHasRoom : Option ℕ → Asking → List (List ℕ) → List ℕ → Type 0
ReplyHasRoom most a taken m = AllHaveRoom most (numbers_left a.base) (client_so_far a taken).progress (reply_updates a taken m)

-- one reply more
pub one_behind : (most : Option ℕ) (a : Asking) (taken replies : List (List ℕ)) (m : List ℕ) → RepliesHaveRoom most a taken replies → ReplyHasRoom most a (taken ++ replies) m → RepliesHaveRoom most a taken (replies ++ m ∷ [])
one_behind most a taken [] m k r = (subst (λ t. ReplyHasRoom most a t m) (append-nil taken) r, tt)
one_behind most a taken (x ∷ more) m k r =
    (k.0, one_behind most a (taken ++ x ∷ []) more m k.1 (subst (λ t. ReplyHasRoom most a t m) (sym (append_assoc taken (x ∷ []) more)) r))

-- a client takes for what it asked with, within its own limit
pub room_takes : (most : Option ℕ) (a : Asking) (c : ClientState) (s t : Session) (taken : List (List ℕ)) (before handles later : List Commit) (m : List ℕ) (r : Result (Option SyncOk) SyncError) → c.most ≡ most
    → ((base : Commit) (taken : List (List ℕ)) (before : List Commit) → Stands c s (asking_of c base) taken before handles → ReplyKeepsRoom c.most (asking_of c base) t before later taken m r)
    → Stands c s a taken before handles → ReplyKeepsRoom most a t before later taken m r
room_takes most a c s t taken before handles later m r e f st =
    subst (λ (n : Option ℕ). ReplyKeepsRoom n a t before later taken m r) e
    (subst (λ (x : Asking). ReplyKeepsRoom c.most x t before later taken m r) st.asks (f a.base taken before (subst (λ (x : Asking). Stands c s x taken before handles) (sym st.asks) st)))

pub stops_takes : (most : Option ℕ) (a : Asking) (c d : ClientState) (s t : Session) (taken : List (List ℕ)) (before handles later : List Commit) (m : List ℕ) (r : Result (Option SyncOk) SyncError) → c.most ≡ most
    → ((base : Commit) (taken : List (List ℕ)) (before : List Commit) → Stands c s (asking_of c base) taken before handles → r ≡ Err Memory → ReplyStopsAt c.most (asking_of c base) t before later taken m d.full)
    → Stands c s a taken before handles → r ≡ Err Memory → d.full ≡ true → ReplyStopsAt most a t before later taken m true
stops_takes most a c d s t taken before handles later m r e f st is full =
    subst (λ (b : Bool). ReplyStopsAt most a t before later taken m b) full
    (subst (λ (n : Option ℕ). ReplyStopsAt n a t before later taken m d.full) e
    (subst (λ (x : Asking). ReplyStopsAt c.most x t before later taken m d.full) st.asks (f a.base taken before (subst (λ (x : Asking). Stands c s x taken before handles) (sym st.asks) st) is)))

-- ---- a rollback at the end changes nothing of it

abbrev kept_rolled : (most : Option ℕ) (a : Asking) (taken : List (List ℕ)) (m : List ℕ) (before handles : List Commit) (s t : Session) → s ≡ rolled_back t
    → KeepsRoom most a.base before t handles (client_so_far a taken).progress (reply_updates a taken m) → KeepsRoom most a.base before s handles (client_so_far a taken).progress (reply_updates a taken m)
kept_rolled most a taken m before handles s t e k = record { progress = k.progress; left = k.left; led = k.led; made = made_rolled a.base before handles s t k.progress.committed e k.made; room = k.room }

pub sets_rolled : (most : Option ℕ) (a : Asking) (replies : List (List ℕ)) (before handles : List Commit) (s t : Session) → s ≡ rolled_back t → KeepsSets most a replies before handles t → KeepsSets most a replies before handles s
sets_rolled most a replies before handles s t e (inl k) = inl k
sets_rolled most a replies before handles s t e (inr k) = inr (record { taken = k.taken; last = k.last; all = k.all; room = k.room; kept = kept_rolled most a k.taken k.last before handles s t e k.kept })

pub full_rolled : (most : Option ℕ) (a : Asking) (replies : List (List ℕ)) (before handles : List Commit) (s t : Session) → s ≡ rolled_back t → AddsToFull most a replies before handles t → AddsToFull most a replies before handles s
full_rolled most a replies before handles s t e k = record {
  taken = k.taken;
  last = k.last;
  all = k.all;
  stops = record { kept = kept_rolled most a k.taken k.last before handles s t e k.stops.kept; next = k.stops.next; behind = k.stops.behind; stops = k.stops.stops; test = k.stops.test };
}
