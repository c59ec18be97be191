-- One exchange over streams: the request that goes out, the replies that come in, and what they come to (RFC 5936, 2 and 6; RFC 8945, 5.3).
use Rattle.std.specs.Prelude.{◌≡◌, ◌⊎◌, ℕ, List, [], length, take, Option, Result, Ok, Err}
use Rattle.dns_wire.specs.declared.message.ShortMessage.{ShortMessage}
use Rattle.zone_model.specs.Commits.{Commit}
use Rattle.zone_reads.specs.Session.{Session}
use Rattle.zone_devices.specs.Streams.{with_more}
use Rattle.message_frames.specs.Frames.{frame_of}
use Rattle.xfr_client.specs.SoFar.{Asking, asked_octets, CanAsk, CantAsk}
use Rattle.xfr_client.specs.Standing.{ClientState, Stands}
use Rattle.xfr_client.specs.Transfers.{HasShort, Transfers}
use Rattle.xfr_outcomes.specs.declared.outcome.SyncOk.{SyncOk}
use Rattle.xfr_outcomes.specs.declared.outcome.SyncError.TheVariants as why
use Rattle.zone_asking.specs.declared.limits.Limits.{Limits}
use Rattle.zone_asking.specs.declared.errors.AskError.{AskError}
use Rattle.zone_asking.specs.declared.errors.AskError.TheVariants.{Transfer, FullSet, SinkFault}
use Rattle.zone_asking.specs.Answers.{sync_answer, TellsCode}
use Rattle.zone_asking.specs.Limiting.{RepliesHaveRoom, KeepsSets, AddsToFull}
use Rattle.zone_asking.specs.Streams.{Reads, ReadSoFar}

-- what a source has left and a sink took, where they tell it, before and after
pub record Crossing : Type 0 where
  pub left_old : Option (List ℕ)
  pub left_new : Option (List ℕ)
  pub taken_old : Option (List ℕ)
  pub taken_new : Option (List ℕ)

abbrev pub crossing : Option (List ℕ) → Option (List ℕ) → Option (List ℕ) → Option (List ℕ) → Crossing
crossing left_old left_new taken_old taken_new = record { left_old = left_old; left_new = left_new; taken_old = taken_old; taken_new = taken_new }

-- ---- the request

-- why it wasn't made; want of memory may come in any case
abbrev pub IsUnmade : Asking → Result SyncOk AskError → Type 0
IsUnmade a (Err (Transfer e)) = CantAsk a 65535 e
IsUnmade a answer = ⊥

-- no answer of a reply says that the request wasn't made or didn't go out, or is one of a link or a primary
abbrev pub ComesLater : Result SyncOk AskError → Type 0
ComesLater (Err (Transfer why.NoSoa)) = ⊥
ComesLater (Err (Transfer (why.Request e))) = ⊥
ComesLater (Err (Transfer why.LinkFault)) = ⊥
ComesLater (Err (Transfer (why.Primary e))) = ⊥
ComesLater (Err SinkFault) = ⊥
ComesLater answer = Unit {0}

-- it wasn't made: neither stream was touched
pub record Unmade (a : Asking) (replies : List (List ℕ)) (x : Crossing) (answer : Result SyncOk AskError) : Type 0 where
  pub cause : IsUnmade a answer
  pub unread : x.left_new ≡ x.left_old
  pub unwritten : x.taken_new ≡ x.taken_old
  pub none : replies ≡ []

-- it was made, and the sink failed: it took a first part of its frame, and nothing was read
pub record Unsent (a : Asking) (replies : List (List ℕ)) (x : Crossing) (answer : Result SyncOk AskError) : Type 0 where
  pub can : CanAsk a 65535
  pub failed : answer ≡ Err SinkFault
  pub unread : x.left_new ≡ x.left_old
  pub count : ℕ
  pub part : x.taken_new ≡ with_more (take count (frame_of (asked_octets a))) x.taken_old
  pub none : replies ≡ []

-- it was made, and the sink took its frame
pub record Sent (a : Asking) (x : Crossing) (answer : Result SyncOk AskError) : Type 0 where
  pub can : CanAsk a 65535
  pub later : ComesLater answer
  pub frame : x.taken_new ≡ with_more (frame_of (asked_octets a)) x.taken_old

abbrev pub Asks : Asking → List (List ℕ) → Crossing → Result SyncOk AskError → Type 0
Asks a replies x answer = Unmade a replies x answer ⊎ (Unsent a replies x answer ⊎ Sent a x answer)

-- ---- the replies

-- they were read of a source until the outcome was met
pub record EndsSo (limits : Limits) (over : Option ℕ) (a : Asking) (old new : Option (List ℕ)) (before handles : List Commit) (s : Session) (answer : Result SyncOk AskError) : Type 0 where
  pub replies : List (List ℕ)
  pub reads : Reads limits over replies old new answer
  pub transfers : Transfers a replies before handles s (sync_answer answer)
  pub sets : KeepsSets limits.set_records a replies before handles s
  pub full : answer ≡ Err FullSet → AddsToFull limits.set_records a replies before handles s
  pub short : (e : ShortMessage) → answer ≡ Err (Transfer (why.Short e)) → HasShort replies
  pub code : TellsCode replies answer
  pub later : ComesLater answer

-- .. and so far
pub record TakenSoFar (limits : Limits) (over : Option ℕ) (a : Asking) (old new : Option (List ℕ)) (left : Limits) (c : ClientState) (s : Session) (before handles : List Commit) (n : ℕ) : Type 0 where
  pub taken : List (List ℕ)
  pub count : length taken ≡ n
  pub reads : ReadSoFar limits over taken old new left
  pub room : RepliesHaveRoom limits.set_records a [] taken
  pub stands : Stands c s a taken before handles

-- ---- one exchange

-- What an exchange does within limits, whatever octets the source gives: the frame of the signed request goes out, replies come in as frames, but for those
-- that are passed over, exactly the versions that the checked ones spell are committed, in order, with a handle each, and the answer is the outcome.
pub record Exchanges (limits : Limits) (over : Option ℕ) (a : Asking) (x : Crossing) (before handles : List Commit) (s : Session) (answer : Result SyncOk AskError) : Type 0 where
  pub replies : List (List ℕ)
  pub asks : Asks a replies x answer
  pub reads : Reads limits over replies x.left_old x.left_new answer
  pub transfers : Transfers a replies before handles s (sync_answer answer)
  -- no update adds to a full set, and the answer tells of the first that would
  pub sets : KeepsSets limits.set_records a replies before handles s
  pub full : answer ≡ Err FullSet → AddsToFull limits.set_records a replies before handles s
  -- the causes of what comes in place of a reply
  pub short : (e : ShortMessage) → answer ≡ Err (Transfer (why.Short e)) → HasShort replies
  pub code : TellsCode replies answer
