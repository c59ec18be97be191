-- DNS messages over a stream, each with its length before it (RFC 1035, 4.2.2).
use Rattle.std.specs.Prelude.{ℕ, zero, suc, ◌+◌, nat_le, List, [], ◌∷◌, ◌++◌, length, take, drop, flat_map, Option, Some, None, if◌then◌else◌}
use Rattle.std.specs.Int.{w16, from_be_bytes}
use Rattle.dns_name.specs.Octets.{u16_octets}

-- a message after the number of its octets, in two octets, the high one first
abbrev pub frame_of : List ℕ → List ℕ
frame_of message = u16_octets (length message) ++ message

-- one frame after another
abbrev pub frames_of : List (List ℕ) → List ℕ
frames_of messages = flat_map frame_of messages

-- the first octets, so many, and those behind them
abbrev pub split_at : ℕ → List ℕ → Option (List ℕ × List ℕ)
split_at count octets = if nat_le count (length octets) then Some (take count octets, drop count octets) else None

-- the message of the frame with which the octets begin, and the octets behind the frame. None where no whole frame is there.
abbrev pub first_frame : List ℕ → Option (List ℕ × List ℕ)
first_frame [] = None
first_frame (high ∷ []) = None
first_frame (high ∷ low ∷ more) = split_at (from_be_bytes w16 (high ∷ low ∷ [])) more

-- how many octets the frame has with which the octets begin: two for its length, and as many as these say once both are there
abbrev pub frame_size : List ℕ → ℕ
frame_size [] = 2
frame_size (high ∷ []) = 2
frame_size (high ∷ low ∷ more) = 2 + from_be_bytes w16 (high ∷ low ∷ [])

-- the messages of the whole frames, in order, and what is left behind the last of them: nothing, or the beginning of a frame
pub record Cut : Type 0 where
  pub messages : List (List ℕ)
  pub left : List ℕ

abbrev pub with_message : List ℕ → Cut → Cut
with_message message cut = record { messages = message ∷ cut.messages; left = cut.left }

-- the octets are cut at their first frame, which may be none, and by `cut` behind it
abbrev pub cut_behind : (List ℕ → Cut) → List ℕ → Option (List ℕ × List ℕ) → Cut
cut_behind cut octets None = record { messages = []; left = octets }
cut_behind cut octets (Some (message, rest)) = with_message message (cut rest)

-- so many frames at most
abbrev pub cut_within : ℕ → List ℕ → Cut
cut_within zero octets = record { messages = []; left = octets }
cut_within (suc n) octets = cut_behind (cut_within n) octets (first_frame octets)

-- all frames: each has two octets or more, so that there are fewer of them than octets (law `octets_are_cut_frame_by_frame`)
abbrev pub cut_frames : List ℕ → Cut
cut_frames octets = cut_within (length octets) octets
