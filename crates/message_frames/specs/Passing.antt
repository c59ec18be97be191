-- Octets that go over a stream, where it tells them.
use Rattle.std.specs.Prelude.{◌≡◌, ◌≢◌, ◌≤◌, ℕ, List, [], length, Option, Some, None, option_map, IfSome}
use Rattle.zone_devices.specs.Streams.{with_first}
use Rattle.message_frames.specs.Frames.{first_frame, frame_size}

-- a source gave its first message, and has what is behind the frame
abbrev pub Gives : List ℕ → Option (List ℕ) → Option (List ℕ) → Type 0
Gives message before after = option_map first_frame before ≡ option_map (λ rest. Some (message, rest)) after

-- so many octets at most were taken of a source
abbrev pub TakesAtMost : ℕ → Option (List ℕ) → Option (List ℕ) → Type 0
TakesAtMost count before after = (octets : List ℕ) × (length octets ≤ count) × (with_first octets after ≡ before)

-- octets that end within a frame: there are some, and no whole frame
abbrev pub IsCutOff : List ℕ → Type 0
IsCutOff octets = (octets ≢ []) × (first_frame octets ≡ None)

-- nothing behind the first frame was taken of a source
abbrev pub TakesWithinFrame : Option (List ℕ) → Option (List ℕ) → Type 0
TakesWithinFrame before after = IfSome before (λ octets. TakesAtMost (frame_size octets) before after)
