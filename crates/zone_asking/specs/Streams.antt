-- What an exchange reads of a source, where it tells its octets (RFC 1035, 4.2.2).
use Rattle.std.specs.Prelude.{◌≡◌, ◌==◌, ◌&&◌, not, Bool, false, ℕ, List, [], ◌∷◌, ◌++◌, length, drop, filter, Option, Some, None, IfSome, Result, Ok, Err}
use Rattle.dns_wire.specs.Wire.{id_in}
use Rattle.xfr_course.specs.Courses.{has_header}
use Rattle.message_frames.specs.Frames.{frames_of, cut_frames}
use Rattle.message_frames.specs.Passing.{IsCutOff, TakesWithinFrame}
use Rattle.xfr_outcomes.specs.declared.outcome.SyncOk.{SyncOk}
use Rattle.xfr_outcomes.specs.declared.outcome.SyncError.TheVariants.{Ended, Memory}
use Rattle.zone_asking.specs.declared.limits.Limits.{Limits}
use Rattle.zone_asking.specs.declared.limits.Limit.{Limit}
use Rattle.zone_asking.specs.declared.errors.AskError.{AskError}
use Rattle.zone_asking.specs.declared.errors.AskError.TheVariants as ask
use Rattle.zone_asking.specs.Limiting.{IsLeft, Within, passed}

-- octets begin with the frames of these messages, and those are behind them
pub record BeginsWith (first : List (List ℕ)) (octets rest : List ℕ) : Type 0 where
  pub messages : (cut_frames octets).messages ≡ first ++ (cut_frames rest).messages
  pub left : (cut_frames octets).left ≡ (cut_frames rest).left
  pub behind : rest ≡ drop (length (frames_of first)) octets

abbrev pub GivesFrames : List (List ℕ) → Option (List ℕ) → Option (List ℕ) → Type 0
GivesFrames first None None = Unit {0}
GivesFrames first (Some octets) (Some rest) = BeginsWith first octets rest
GivesFrames first _ _ = ⊥

-- ---- what is passed over: messages with the id of an exchange before, where one is given; no octets that are no header

abbrev pub has_id : Option ℕ → List ℕ → Bool
has_id None m = false
has_id (Some id) m = has_header m && (id_in m == id)

-- the replies among the messages that were read
abbrev pub replies_among : Option ℕ → List (List ℕ) → List (List ℕ)
replies_among over read = filter (λ m. not (has_id over m)) read

-- ---- the end

-- one message more was read behind those, and would have passed this limit
pub record PassesLimit (limits : Limits) (read : List (List ℕ)) (which : Limit) (rest new : Option (List ℕ)) : Type 0 where
  pub message : List ℕ
  pub frame : GivesFrames (message ∷ []) rest new
  pub passes : passed limits read message ≡ Some which

-- What is left of a source that had these octets behind the last frame that was read: none were there where it ended, and no whole frame where it ended
-- within one; nothing behind the next frame was taken where it failed or memory ran out, and just that frame where it would have passed a limit; nothing
-- at all with any other answer.
abbrev pub LeavesBy : Limits → List (List ℕ) → Result SyncOk AskError → Option (List ℕ) → Option (List ℕ) → Type 0
LeavesBy limits read (Err (ask.Transfer Ended)) rest new = IfSome rest (λ octets. octets ≡ []) × (new ≡ rest)
LeavesBy limits read (Err ask.Cut) rest new = IfSome rest IsCutOff × IfSome new (λ octets. octets ≡ [])
LeavesBy limits read (Err ask.SourceFault) rest new = TakesWithinFrame rest new
LeavesBy limits read (Err (ask.Transfer Memory)) rest new = TakesWithinFrame rest new
LeavesBy limits read (Err (ask.Limit which)) rest new = PassesLimit limits read which rest new
LeavesBy limits read answer rest new = new ≡ rest

-- these replies were read of a source, among the messages of its first frames, which pass no limit; and nothing behind those but what the answer says
pub record Reads (limits : Limits) (over : Option ℕ) (replies : List (List ℕ)) (old new : Option (List ℕ)) (answer : Result SyncOk AskError) : Type 0 where
  pub read : List (List ℕ)
  pub among : replies ≡ replies_among over read
  pub within : Within limits read
  pub rest : Option (List ℕ)
  pub frames : GivesFrames read old rest
  pub leaves : LeavesBy limits read answer rest new

-- .. and so far
pub record ReadSoFar (limits : Limits) (over : Option ℕ) (replies : List (List ℕ)) (old new : Option (List ℕ)) (left : Limits) : Type 0 where
  pub read : List (List ℕ)
  pub among : replies ≡ replies_among over read
  pub spent : IsLeft limits read left
  pub frames : GivesFrames read old new
