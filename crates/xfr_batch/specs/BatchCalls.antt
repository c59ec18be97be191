-- What the calls of a batcher answer and leave.
use Rattle.std.specs.Prelude.{◌≡◌, ℕ, Bool, true, false, List, [], ◌∷◌, ◌++◌, All, Option, Some, None, Result, Ok, Err}
use Rattle.dns_rdata.specs.Records.{Record}
use Rattle.dns_wire.specs.Wire.{Building}
use Rattle.dns_wire.specs.declared.builder.PushError.{PushError}
use Rattle.dns_wire.specs.declared.builder.PushError.TheVariants.{ShortBuf, Memory}
use Rattle.xfr_batch.specs.Batches.{Beginning, message_with, has_room, Ending, is_last, Batch, joined, IsBatch, Batching, Stands}
use Rattle.xfr_batch.specs.Batches.Ending.{Full, NoRoomFor, Finished}
use Rattle.xfr_batch.specs.declared.batcher.PushResult.{PushResult}
use Rattle.xfr_batch.specs.declared.batcher.PushResult.TheVariants.{PushedAndReadyForMore, PushedAndLimitReached, NotPushedMessageFull, Retry}

-- these batches were handed on from a state, each taken, and that led to another
abbrev pub HandsOn : {T E : Type 0} → (T → Beginning) → (T → Building → Bool → Result (Unit {0}) E → T → Type 0) → T → List (Batch T) → T → Type 0
HandsOn begins Readies s [] t = s ≡ t
HandsOn {T} begins Readies s (b ∷ batches) t = (b.state ≡ s)
    × ((mid : T) × (Readies s (message_with (begins s) b.records) (is_last b.ending) (Ok tt) mid × HandsOn begins Readies mid batches t))

-- whether each batch begins as the one before it that was taken
abbrev pub BeginsAlike : {T E : Type 0} → (T → Beginning)
    → (T → Building → Bool → Result (Unit {0}) E → T → Type 0) → Type 0
BeginsAlike {T} begins Readies = (s t : T) (m : Building) (last : Bool) → Readies s m last (Ok tt) t
    → begins t ≡ begins s

-- whether a push of this record may end a batch so
abbrev pub ByPush : Record → Ending → Type 0
ByPush r Full = Unit {0}
ByPush r (NoRoomFor next) = next ≡ r
ByPush r Finished = ⊥

-- whether a finish may
abbrev pub ByFinish : Ending → Type 0
ByFinish Full = ⊥
ByFinish (NoRoomFor next) = ⊥
ByFinish Finished = Unit {0}

-- a call that handed batches on, each taken, after which the batcher stands for these records
pub record Moves {T E : Type 0} (begins : T → List ℕ → Beginning) (is_full : T → Building → Bool) (Readies : T → Building → Bool → Result (Unit {0}) E → T → Type 0)
    (By : Ending → Type 0) (old : Batching T) (pushed : List Record) (batches : List (Batch T)) (new : Batching T) : Type 0 where
  pub handed : List (Batch T)
  pub by : All (λ (b : Batch T). By b.ending) handed
  pub hands_on : HandsOn (λ s. begins s old.request) Readies old.state handed new.state
  pub same_request : new.request ≡ old.request
  pub stands : Stands begins is_full new pushed (batches ++ handed)

-- a call that handed batches on, each taken but the last, which was refused and is lost with its records; the batcher stands for the records of the others
pub record Loses {T E : Type 0} (begins : T → List ℕ → Beginning) (is_full : T → Building → Bool) (Readies : T → Building → Bool → Result (Unit {0}) E → T → Type 0)
    (By : Ending → Type 0) (old : Batching T) (taken : Ending → List Record) (batches : List (Batch T)) (e : E) (new : Batching T) : Type 0 where
  pub handed : List (Batch T)
  pub by : All (λ (b : Batch T). By b.ending) handed
  pub lost : Batch T
  pub lost_by : By lost.ending
  pub is_batch : IsBatch (λ s. begins s old.request) is_full lost
  pub hands_on : HandsOn (λ s. begins s old.request) Readies old.state handed lost.state
  pub refused : Readies lost.state (message_with (begins lost.state old.request) lost.records) (is_last lost.ending) (Err e) new.state
  pub all : taken lost.ending ≡ joined (batches ++ handed) ++ lost.records
  pub same_request : new.request ≡ old.request
  pub closed : new.answer ≡ None
  pub stands : Stands begins is_full new (joined (batches ++ handed)) (batches ++ handed)

-- the records up to a batch that a push of r ended so, which has r in it only where it was full with that
abbrev pub taken_by : Record → List Record → Ending → List Record
taken_by r pushed Full = pushed ++ r ∷ []
taken_by r pushed (NoRoomFor next) = pushed
taken_by r pushed Finished = pushed

-- the callbacks' state as the last of these batches began, or this one where there is none
abbrev pub last_state : {T : Type 0} → T → List (Batch T) → T
last_state s [] = s
last_state s (b ∷ batches) = last_state b.state batches

-- the state as the batch of the record pushed last began: it is begun still, or is the last of those handed on
abbrev pub entered : {T : Type 0} → Option Building → List (Batch T) → T → T
entered (Some m) handed s = s
entered None handed s = last_state s handed

-- a record was pushed, and an empty batch that begins as its own did has room for it
pub record Gains {T E : Type 0} (begins : T → List ℕ → Beginning) (is_full : T → Building → Bool)
    (Readies : T → Building → Bool → Result (Unit {0}) E → T → Type 0) (r : Record) (old : Batching T)
    (pushed : List Record) (batches : List (Batch T)) (new : Batching T) : Type 0 where
  pub moves : Moves begins is_full Readies (ByPush r) old (pushed ++ r ∷ []) batches new
  pub fits : has_room (begins (entered new.answer moves.handed new.state) new.request) (r ∷ []) ≡ true

-- why a record was not pushed, or was lost with its batch: it has no room in an empty batch, memory ran out, or a batch was refused
pub data NotPushed {T E : Type 0} (begins : T → List ℕ → Beginning) (is_full : T → Building → Bool) (Readies : T → Building → Bool → Result (Unit {0}) E → T → Type 0)
    (From : PushError → E → Type 0) (r : Record) (old : Batching T) (pushed : List Record) (batches : List (Batch T)) (e : E) (new : Batching T) : Type 0 where
  NoRoom : From ShortBuf e → has_room (begins new.state new.request) (r ∷ []) ≡ false → new.answer ≡ None
      → Moves begins is_full Readies (ByPush r) old pushed batches new → NotPushed begins is_full Readies From r old pushed batches e new
  NoMemory : From Memory e → Moves begins is_full Readies (ByPush r) old pushed batches new → NotPushed begins is_full Readies From r old pushed batches e new
  Refused : Loses begins is_full Readies (ByPush r) old (taken_by r pushed) batches e new → NotPushed begins is_full Readies From r old pushed batches e new

-- what a push answers a batcher that stood for these records and batches
abbrev pub Pushes : {T E : Type 0} → (T → List ℕ → Beginning) → (T → Building → Bool) → (T → Building → Bool → Result (Unit {0}) E → T → Type 0)
    → (PushError → E → Type 0) → Record → Batching T → List Record → List (Batch T) → Result PushResult E → Batching T → Type 0
Pushes begins is_full Readies From r old pushed batches (Ok PushedAndReadyForMore) new =
    Gains begins is_full Readies r old pushed batches new
Pushes begins is_full Readies From r old pushed batches (Ok (PushedAndLimitReached m)) new = ⊥
Pushes begins is_full Readies From r old pushed batches (Ok (NotPushedMessageFull m)) new = ⊥
Pushes begins is_full Readies From r old pushed batches (Ok Retry) new = ⊥
Pushes begins is_full Readies From r old pushed batches (Err e) new = NotPushed begins is_full Readies From r old pushed batches e new

-- what a finish answers: what was begun is handed on, or lost
abbrev pub Finishes : {T E : Type 0} → (T → List ℕ → Beginning) → (T → Building → Bool) → (T → Building → Bool → Result (Unit {0}) E → T → Type 0)
    → Batching T → List Record → List (Batch T) → Result (Unit {0}) E → Batching T → Type 0
Finishes begins is_full Readies old pushed batches (Ok u) new = (new.answer ≡ None) × Moves begins is_full Readies ByFinish old pushed batches new
Finishes begins is_full Readies old pushed batches (Err e) new = Loses begins is_full Readies ByFinish old (λ ending. pushed) batches e new
