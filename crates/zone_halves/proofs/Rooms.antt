-- Replies that have room leave no update that adds to a full set.
use Rattle.std.proofs.Common.{◌≡◌, ℕ, true, false, List, [], ◌∷◌, ◌++◌, append-nil, append_assoc, refl, sym, ap, ◌∙◌, subst, Option, Some, None, Result, Ok, Err}
use Rattle.std.specs.Prelude.{IfOk}
use Rattle.zone_model.specs.Version.{Version}
use Rattle.zone_model.specs.Commits.{Commit}
use Rattle.zone_reads.specs.Session.{Session}
use Rattle.zone_model.specs.Updates.{Update, DeleteAllRecords, DeleteRecord, AddRecord, BeginBatchDelete, BeginBatchAdd, Finished, Progress, apply_update}
use Rattle.xfr_model.specs.Applying.{Halt, Held, within, unless_halted, apply_within}
use Rattle.xfr_client.specs.SoFar.{Asking, client_so_far}
use Rattle.xfr_client.specs.Steps.{numbers_left}
use Rattle.xfr_client.specs.Room.{adds_to_full, AllHaveRoom, reply_updates, ReplyStopsAt}
use Rattle.zone_asking.specs.Limiting.{RepliesHaveRoom, AddsToFull}
use Rattle.zone_halves.specs.Meeting.{HaveRoom}

-- updates behind those that were done
room_left : (most : Option ℕ) (limit : ℕ) (done left : List Update) (g p : Progress) → AllHaveRoom most limit g (done ++ left) → apply_within limit g done ≡ record { progress = p; halt = None } → AllHaveRoom most limit p left
room_left most limit [] left g p r led = subst (λ (x : Held). AllHaveRoom most limit x.progress left) led r
room_left most limit (u ∷ more) left g p r led = by (within limit (apply_update g u)) r.1 led (λ q b l. room_left most limit more left q p b l)
  where
    by : (o : Result Progress Halt) → IfOk o (λ q. AllHaveRoom most limit q (more ++ left)) → unless_halted g (λ q. apply_within limit q more) o ≡ record { progress = p; halt = None }
        → ((q : Progress) → AllHaveRoom most limit q (more ++ left) → apply_within limit q more ≡ record { progress = p; halt = None } → AllHaveRoom most limit p left)
        → AllHaveRoom most limit p left
    by (Ok q) b l next = next q b l
    by (Err h) b l next = absurd (cc (ap (λ (x : Held). x.halt) l))

-- no update of a reply that has room adds to a full set
no_stop : (most : Option ℕ) (a : Asking) (s : Session) (before handles : List Commit) (taken : List (List ℕ)) (m : List ℕ)
    → AllHaveRoom most (numbers_left a.base) (client_so_far a taken).progress (reply_updates a taken m) → ReplyStopsAt most a s before handles taken m true → ⊥
no_stop most a s before handles taken m room stops =
    let kept = stops.kept in
    let limit = numbers_left a.base in
    let g = (client_so_far a taken).progress in
    let left : AllHaveRoom most limit kept.progress kept.left
    = room_left most limit kept.led.done kept.left g kept.progress (subst (AllHaveRoom most limit g) kept.led.joined room) kept.led.led in
    let next : AllHaveRoom most limit kept.progress (stops.next ∷ stops.behind) = subst (AllHaveRoom most limit kept.progress) stops.stops left in
    cc (sym next.0 ∙ stops.test)

-- one of replies that have room
room_at : (most : Option ℕ) (a : Asking) (before taken : List (List ℕ)) (m : List ℕ) (rest : List (List ℕ)) → RepliesHaveRoom most a before (taken ++ m ∷ rest)
    → AllHaveRoom most (numbers_left a.base) (client_so_far a (before ++ taken)).progress (reply_updates a (before ++ taken) m)
room_at most a before [] m rest r =
    subst (λ t. AllHaveRoom most (numbers_left a.base) (client_so_far a t).progress (reply_updates a t m)) (sym (append-nil before)) r.0
room_at most a before (x ∷ more) m rest r =
    subst (λ t. AllHaveRoom most (numbers_left a.base) (client_so_far a t).progress (reply_updates a t m)) (append_assoc before (x ∷ []) more)
    (room_at most a (before ++ x ∷ []) more m rest r.1)

-- without a limit on sets none is full
never_full : (v : Version) (u : Update) → adds_to_full None v u ≡ false
never_full v DeleteAllRecords = refl
never_full v (DeleteRecord r) = refl
never_full v (AddRecord r) = refl
never_full v (BeginBatchDelete r) = refl
never_full v (BeginBatchAdd r) = refl
never_full v (Finished r) = refl

-- a first part of messages that have room adds to no full set
pub not_full : (most : Option ℕ) (a : Asking) (messages replies rest : List (List ℕ)) (before handles : List Commit) (s : Session) → HaveRoom most a messages → messages ≡ replies ++ rest
    → AddsToFull most a replies before handles s → ⊥
not_full None a messages replies rest before handles s room part f = cc (sym (never_full f.stops.kept.progress.pending f.stops.next) ∙ f.stops.test)
not_full (Some most) a messages replies rest before handles s room part f =
    let joined : messages ≡ f.taken ++ f.last ∷ rest = part ∙ ap (λ r. r ++ rest) f.all ∙ append_assoc f.taken (f.last ∷ []) rest in
    no_stop (Some most) a s before handles f.taken f.last (room_at (Some most) a [] f.taken f.last rest (subst (RepliesHaveRoom (Some most) a []) joined room)) f.stops
