-- The steps that a push is made of.
use Rattle.std.specs.Prelude.{◌≡◌, ◌≢◌, ℕ, Bool, true, false, List, [], ◌∷◌, ◌++◌, Option, Some, None, is_some, Result, Ok, Err}
use Rattle.dns_rdata.specs.Records.{Record}
use Rattle.dns_wire.specs.Wire.{Building}
use Rattle.dns_wire.specs.declared.builder.PushError.{PushError}
use Rattle.dns_wire.specs.declared.builder.PushError.TheVariants.{ShortBuf, CountOverflow, Memory}
use Rattle.xfr_batch.specs.Batches.{Beginning, message_with, has_room, Batch, Batching}
use Rattle.xfr_batch.specs.BatchCalls.{Moves, NotPushed, ByPush}
use Rattle.xfr_batch.specs.declared.batcher.PushResult.{PushResult}
use Rattle.xfr_batch.specs.declared.batcher.PushResult.TheVariants.{PushedAndReadyForMore, PushedAndLimitReached, NotPushedMessageFull, Retry}

-- a message to which a record was added: kept where it isn't full, else given back
abbrev pub Settles : (Building → Bool) → Building → Option Building → PushResult → Option Building → Type 0
Settles is_full m old PushedAndReadyForMore new = (is_full m ≡ false) × (new ≡ Some m)
Settles is_full m old (PushedAndLimitReached limited) new = (is_full m ≡ true) × (limited ≡ m) × (new ≡ old)
Settles is_full m old (NotPushedMessageFull full) new = ⊥
Settles is_full m old Retry new = ⊥

-- a record added to a message that has these, which was taken out
abbrev pub Joins : Beginning → (Building → Bool) → Record → List Record → Option Building → Result PushResult PushError → Option Building → Type 0
Joins b is_full r begun old (Ok PushedAndReadyForMore) new = (has_room b (begun ++ r ∷ []) ≡ true)
    × (is_full (message_with b (begun ++ r ∷ [])) ≡ false) × (new ≡ Some (message_with b (begun ++ r ∷ [])))
Joins b is_full r begun old (Ok (PushedAndLimitReached m)) new = (has_room b (begun ++ r ∷ []) ≡ true)
    × (is_full (message_with b (begun ++ r ∷ [])) ≡ true) × (m ≡ message_with b (begun ++ r ∷ [])) × (new ≡ old)
Joins b is_full r begun old (Ok (NotPushedMessageFull m)) new = (has_room b (begun ++ r ∷ []) ≡ false) × (m ≡ message_with b begun) × (new ≡ old)
Joins b is_full r begun old (Ok Retry) new = ⊥
Joins b is_full r begun old (Err ShortBuf) new = ⊥
Joins b is_full r begun old (Err CountOverflow) new = ⊥
Joins b is_full r begun old (Err Memory) new = (has_room b (begun ++ r ∷ []) ≡ true) × (new ≡ Some (message_with b begun))

-- a message begun with a record
abbrev pub Opens : Beginning → (Building → Bool) → Record → Option Building → Result PushResult PushError → Option Building → Type 0
Opens b is_full r old (Ok PushedAndReadyForMore) new = (has_room b (r ∷ []) ≡ true)
    × (is_full (message_with b (r ∷ [])) ≡ false) × (new ≡ Some (message_with b (r ∷ [])))
Opens b is_full r old (Ok (PushedAndLimitReached m)) new = (has_room b (r ∷ []) ≡ true)
    × (is_full (message_with b (r ∷ [])) ≡ true) × (m ≡ message_with b (r ∷ [])) × (new ≡ old)
Opens b is_full r old (Ok (NotPushedMessageFull m)) new = ⊥
Opens b is_full r old (Ok Retry) new = ⊥
Opens b is_full r old (Err ShortBuf) new = (has_room b (r ∷ []) ≡ false) × (new ≡ None)
Opens b is_full r old (Err CountOverflow) new = ⊥
Opens b is_full r old (Err Memory) new = (has_room b [] ≡ true) × (new ≡ None)

-- what want of memory for a record may hide: that it has no room in a message of its own; but not that what a message begins with has none, nor
-- that the record has none in one that is begun
abbrev pub MemoryHides : Beginning → Record → List Record → Type 0
MemoryHides b r begun = (has_room b [] ≡ true) × (begun ≢ [] → has_room b (begun ++ r ∷ []) ≡ true)

-- a record pushed where these records were begun; a message that has to be handed on is given back
abbrev pub Tries : Beginning → (Building → Bool) → Record → List Record → Option Building → Result PushResult PushError → Option Building → Type 0
Tries b is_full r begun old (Ok PushedAndReadyForMore) new = (has_room b (begun ++ r ∷ []) ≡ true)
    × (is_full (message_with b (begun ++ r ∷ [])) ≡ false) × (new ≡ Some (message_with b (begun ++ r ∷ [])))
Tries b is_full r begun old (Ok (PushedAndLimitReached m)) new = (has_room b (begun ++ r ∷ []) ≡ true)
    × (is_full (message_with b (begun ++ r ∷ [])) ≡ true) × (m ≡ message_with b (begun ++ r ∷ [])) × (new ≡ None)
Tries b is_full r begun old (Ok (NotPushedMessageFull m)) new = (begun ≢ []) × (has_room b begun ≡ true)
    × (has_room b (begun ++ r ∷ []) ≡ false) × (m ≡ message_with b begun) × (new ≡ None)
Tries b is_full r begun old (Ok Retry) new = ⊥
Tries b is_full r begun old (Err ShortBuf) new = (begun ≡ []) × (has_room b (r ∷ []) ≡ false) × (new ≡ None)
Tries b is_full r begun old (Err CountOverflow) new = ⊥
Tries b is_full r begun old (Err Memory) new = (new ≡ old) × MemoryHides b r begun

-- where a message is given back that has no room for a record, what is kept stays
abbrev pub KeepsWhereFull : Option Building → Result PushResult PushError → Option Building → Type 0
KeepsWhereFull old (Ok (NotPushedMessageFull m)) new = new ≡ old
KeepsWhereFull old (Ok PushedAndReadyForMore) new = Unit {0}
KeepsWhereFull old (Ok (PushedAndLimitReached m)) new = Unit {0}
KeepsWhereFull old (Ok Retry) new = Unit {0}
KeepsWhereFull old (Err e) new = Unit {0}

-- .. that message is the one that was begun, and none is begun then
abbrev pub GivesBack : Option Building → Result PushResult PushError → Option Building → Type 0
GivesBack old (Ok (NotPushedMessageFull m)) new = (is_some old ≡ true) × (new ≡ None)
GivesBack old (Ok PushedAndReadyForMore) new = Unit {0}
GivesBack old (Ok (PushedAndLimitReached m)) new = Unit {0}
GivesBack old (Ok Retry) new = Unit {0}
GivesBack old (Err e) new = Unit {0}

-- a message handed on that others follow: whether the record was pushed, as it was told
abbrev pub HandedOn : {T E : Type 0} → (T → Building → Bool → Result (Unit {0}) E → T → Type 0) → T → Building → Bool → Result Bool E → T → Type 0
HandedOn Readies s m pushed (Ok b) t = (b ≡ pushed) × Readies s m false (Ok tt) t
HandedOn Readies s m pushed (Err e) t = Readies s m false (Err e) t

-- the same with that message handed on: whether the record was pushed, or a message handed on that had no room for it
abbrev pub TriesOnce : {T E : Type 0} → (T → List ℕ → Beginning) → (T → Building → Bool) → (T → Building → Bool → Result (Unit {0}) E → T → Type 0)
    → (PushError → E → Type 0) → Record → Batching T → List Record → List (Batch T) → Result Bool E → Batching T → Type 0
TriesOnce begins is_full Readies From r old pushed batches (Ok true) new = Moves begins is_full Readies (ByPush r) old (pushed ++ r ∷ []) batches new
TriesOnce begins is_full Readies From r old pushed batches (Ok false) new = (old.answer ≢ None) × (new.answer ≡ None)
    × Moves begins is_full Readies (ByPush r) old pushed batches new
TriesOnce begins is_full Readies From r old pushed batches (Err e) new = NotPushed begins is_full Readies From r old pushed batches e new

-- what that is told as
abbrev pub TriesAgain : {T E : Type 0} → (T → List ℕ → Beginning) → (T → Building → Bool) → (T → Building → Bool → Result (Unit {0}) E → T → Type 0)
    → (PushError → E → Type 0) → Record → Batching T → List Record → List (Batch T) → Result PushResult E → Batching T → Type 0
TriesAgain begins is_full Readies From r old pushed batches (Ok PushedAndReadyForMore) new = TriesOnce begins is_full Readies From r old pushed batches (Ok true) new
TriesAgain begins is_full Readies From r old pushed batches (Ok (PushedAndLimitReached m)) new = ⊥
TriesAgain begins is_full Readies From r old pushed batches (Ok (NotPushedMessageFull m)) new = ⊥
TriesAgain begins is_full Readies From r old pushed batches (Ok Retry) new = TriesOnce begins is_full Readies From r old pushed batches (Ok false) new
TriesAgain begins is_full Readies From r old pushed batches (Err e) new = TriesOnce begins is_full Readies From r old pushed batches (Err e) new
