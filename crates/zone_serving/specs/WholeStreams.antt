-- What a stream that was served to its end, or to a request that has no header, says of all its octets.
use Rattle.std.specs.Prelude.{◌≡◌, ◌⊎◌, ℕ, ◌<◌, ◌≤◌, false, List, [], ◌∷◌, ◌++◌, length, Option, Some, Result, Ok, Err}
use Rattle.std.specs.List.{AllByRecursion}
use Rattle.zone_devices.specs.Streams.{with_more}
use Rattle.message_frames.specs.Frames.{cut_frames, frames_of}
use Rattle.xfr_services.specs.Items.{Sending}
use Rattle.xfr_signing.specs.Failing.{fails}
use Rattle.zone_serving.specs.StreamServing.{Answered, IsAnswered, requests_of, replies_of}
use Rattle.zone_serving.specs.declared.errors.ServeError.{ServeError}
use Rattle.zone_serving.specs.declared.errors.ServeError.TheVariants as why
use Rattle.zone_serving.specs.declared.serving.Served.{Served}

-- the octets are cut into these messages, each has a header and was answered, and the sink took the frames of the replies to all of them; behind
-- them these octets are left, and the source is empty
pub record ServesToEnd (Sends : List ℕ → Option (List Sending) → Type 0) (octets left : List ℕ) (count : ℕ) (src_new sink_old sink_new : Option (List ℕ)) : Type 0 where
  pub served : List Answered
  pub cut : cut_frames octets ≡ record { messages = requests_of served; left = left }
  pub answered : AllByRecursion (IsAnswered Sends) served
  pub took : sink_new ≡ with_more (frames_of (replies_of served)) sink_old
  pub count_is : length served ≡ count
  pub emptied : src_new ≡ Some []

-- .. up to a message that has no header
pub record ServesToShort (Sends : List ℕ → Option (List Sending) → Type 0) (octets : List ℕ) (sink_old sink_new : Option (List ℕ)) : Type 0 where
  pub served : List Answered
  pub message : List ℕ
  pub more : List (List ℕ)
  pub cut : (cut_frames octets).messages ≡ requests_of served ++ message ∷ more
  pub short : length message < 12
  pub answered : AllByRecursion (IsAnswered Sends) served
  pub took : sink_new ≡ with_more (frames_of (replies_of served)) sink_old

-- octets that a service can answer whole: they are frames with nothing left, each message has a header, and the service fails to none of them
pub record CanBeServed (Sends : List ℕ → Option (List Sending) → Type 0) (octets : List ℕ) : Type 0 where
  pub whole : (cut_frames octets).left ≡ []
  pub headers : AllByRecursion (λ m. 12 ≤ length m) (cut_frames octets).messages
  pub replies : AllByRecursion (λ m. (sent : Option (List Sending)) → Sends m sent → fails sent ≡ false) (cut_frames octets).messages

-- it ended well, or memory ran out, or there were too many requests
abbrev pub EndsWell : Result Served ServeError → Type 0
EndsWell answer = ((s : Served) × (answer ≡ Ok s)) ⊎ ((answer ≡ Err why.Memory) ⊎ (answer ≡ Err why.TooMany))
