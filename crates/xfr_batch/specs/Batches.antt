-- Batches: the messages that records are put into one after another, as many as fit (RFC 5936, 2.2).
use Rattle.std.specs.Prelude.{◌≡◌, ◌≢◌, ℕ, Bool, true, false, List, [], ◌∷◌, ◌++◌, flat_map, All, Option, Some, None}
use Rattle.dns_rdata.specs.Records.{Record}
use Rattle.dns_wire.specs.Wire.{Building, Header, Question, in_answer, message_wire, fits}
use Rattle.dns_wire.specs.Builds.{building}

-- what a message begins with before any record is pushed, and how many octets it may have
pub record Beginning : Type 0 where
  pub header : Header
  pub questions : List Question
  pub answers : List Record
  pub limit : ℕ

-- the message that began so, with these records pushed
abbrev pub message_with : Beginning → List Record → Building
message_with b rs = building (message_wire (in_answer b.header b.questions (b.answers ++ rs))) b.limit

-- whether that is within its limit
abbrev pub has_room : Beginning → List Record → Bool
has_room b rs = fits b.limit (message_with b rs).octets

-- why a batch ended: its message was said to be full, this record that was pushed next has no room in it, or no record comes after it
pub data Ending : Type 0 where
  Full : Ending
  NoRoomFor : Record → Ending
  Finished : Ending

-- whether no record comes after it, as the callback is told
abbrev pub is_last : Ending → Bool
is_last Full = false
is_last (NoRoomFor r) = false
is_last Finished = true

-- a batch that was handed on: the callbacks' state then, the records that were pushed to it, and why it ended
pub record Batch (T : Type 0) : Type 0 where
  pub state : T
  pub records : List Record
  pub ending : Ending

-- the records of batches one after another
abbrev pub joined : {T : Type 0} → List (Batch T) → List Record
joined batches = flat_map (λ b. b.records) batches

-- Whether a batch with these records had to end so. It was said to be full with its last record, and not before; or it wasn't, and the
-- next record has no room in it, or none comes.
abbrev pub MustEnd : Beginning → (Building → Bool) → List Record → Ending → Type 0
MustEnd b is_full rs Full = (is_full (message_with b rs) ≡ true)
    × ((front : List Record) (r : Record) → rs ≡ front ++ r ∷ [] → front ≢ [] → is_full (message_with b front) ≡ false)
MustEnd b is_full rs (NoRoomFor r) = (is_full (message_with b rs) ≡ false) × (has_room b (rs ++ r ∷ []) ≡ false)
MustEnd b is_full rs Finished = is_full (message_with b rs) ≡ false

-- a batch as each is: not empty, within its limit, and ended where it had to
pub record IsBatch {T : Type 0} (begins : T → Beginning) (is_full : T → Building → Bool) (b : Batch T) : Type 0 where
  pub some : b.records ≢ []
  pub within : has_room (begins b.state) b.records ≡ true
  pub ended : MustEnd (begins b.state) (is_full b.state) b.records b.ending

-- the records of a batch's message: those that it began with and those that were pushed
abbrev pub records_in : {T : Type 0} → (T → List ℕ → Beginning) → List ℕ → Batch T → List Record
records_in begins request b = (begins b.state request).answers ++ b.records

-- a batcher: the request that it answers, the message that it has begun, and the callbacks' state
pub record Batching (T : Type 0) : Type 0 where
  pub request : List ℕ
  pub answer : Option Building
  pub state : T

abbrev pub batching : {T : Type 0} → List ℕ → Option Building → T → Batching T
batching request answer state = record { request = request; answer = answer; state = state }

-- what is begun: no message where no record is in one, else a message with these, within its limit and not said to be full
abbrev pub IsBegun : Beginning → (Building → Bool) → List Record → Option Building → Type 0
IsBegun b is_full rs None = rs ≡ []
IsBegun b is_full rs (Some m) = (rs ≢ []) × (m ≡ message_with b rs) × (has_room b rs ≡ true) × (is_full m ≡ false)

-- a batcher that stands for these records pushed so far, and for these batches handed on so far: the batches' records and then those of
-- the message that is begun are the records, in order
pub record Stands {T : Type 0} (begins : T → List ℕ → Beginning) (is_full : T → Building → Bool) (b : Batching T) (pushed : List Record) (batches : List (Batch T)) : Type 0 where
  pub begun : List Record
  pub all : pushed ≡ joined batches ++ begun
  pub message : IsBegun (begins b.state b.request) (is_full b.state) begun b.answer
  pub each : All (IsBatch (λ s. begins s b.request) is_full) batches
