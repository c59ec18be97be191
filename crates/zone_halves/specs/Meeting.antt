-- Both halves of a transfer over streams: what comes of it where a secondary reads what a granting primary writes (RFC 5936, 2; RFC 7766, 6.2).
use Rattle.std.specs.Prelude.{◌≡◌, ◌≢◌, ◌≤◌, ℕ, false, List, [], length, Option, Some, None, Result, Ok, Err}
use Rattle.std.specs.List.{AllByRecursion}
use Rattle.zone_model.specs.Version.{Version, Same}
use Rattle.zone_reads.specs.Session.{Session}
use Rattle.message_frames.specs.Frames.{frames_of}
use Rattle.xfr_services.specs.Items.{Sending}
use Rattle.xfr_client.specs.SoFar.{Asking}
use Rattle.xfr_outcomes.specs.declared.outcome.SyncOk.{SyncOk}
use Rattle.xfr_outcomes.specs.declared.outcome.SyncError.TheVariants.{Memory}
use Rattle.zone_serving.specs.StreamServing.{SendsJust}
use Rattle.zone_asking.specs.declared.limits.Limits.{Limits}
use Rattle.zone_asking.specs.declared.errors.AskError.{AskError}
use Rattle.zone_asking.specs.declared.errors.AskError.TheVariants.{Transfer, SourceFault, SinkFault}
use Rattle.zone_asking.specs.Limiting.{Within, RepliesHaveRoom}

-- a sink that was empty took the frames of all that a primary sends to a request, and nothing else
pub record WritesAll (Sends : Option (List Sending) → Type 0) (sink : Option (List ℕ)) : Type 0 where
  pub messages : List (List ℕ)
  pub sends : SendsJust Sends false messages
  pub frames : sink ≡ Some (frames_of messages)

-- none of these replies adds a record to a set that is full, where there is a limit on sets
abbrev pub HaveRoom : Option ℕ → Asking → List (List ℕ) → Type 0
HaveRoom None a messages = Unit {0}
HaveRoom (Some most) a messages = RepliesHaveRoom (Some most) a [] messages

-- messages that a secondary takes: a frame can hold each, they pass no limit of its, and none adds to a set that is full
pub record AreTaken (limits : Limits) (a : Asking) (messages : List (List ℕ)) : Type 0 where
  pub short : AllByRecursion (λ m. length m ≤ 65535) messages
  pub within : Within limits messages
  pub room : HaveRoom limits.set_records a messages

-- What a secondary's source holds where the other end writes all that a primary sends to a request: the frames of these messages, which the secondary takes,
-- and nothing else.
pub record IsWritten (Sends : Option (List Sending) → Type 0) (limits : Limits) (a : Asking) (source : Option (List ℕ)) : Type 0 where
  pub writes : WritesAll Sends source
  pub taken : AreTaken limits a writes.messages

-- no call of the secondary's source or sink failed
pub record IsSteady (answer : Result SyncOk AskError) : Type 0 where
  pub source : answer ≢ Err SourceFault
  pub sink : answer ≢ Err SinkFault

-- the secondary's current version is the primary's, or memory ran out
abbrev pub DeliversBy : Version → Session → Result SyncOk AskError → Type 0
DeliversBy v s (Ok done) = Same s.current.version v
DeliversBy v s (Err (Transfer Memory)) = Unit {0}
DeliversBy v s (Err e) = ⊥
