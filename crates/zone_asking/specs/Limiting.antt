-- How much a peer may send in one exchange: limits that the caller gives.
use Rattle.std.specs.Prelude.{◌≡◌, ◌⊎◌, ◌≤◌, ◌+◌, ◌-◌, ◌^◌, nat_lt, ℕ, true, List, [], ◌∷◌, ◌++◌, length, sum_by, Option, Some, None, if◌then◌else◌}
use Rattle.dns_wire.specs.Wire.{ancount_in}
use Rattle.xfr_course.specs.Courses.{has_header}
use Rattle.zone_model.specs.Commits.{Commit}
use Rattle.zone_reads.specs.Session.{Session}
use Rattle.xfr_client.specs.SoFar.{Asking, client_so_far}
use Rattle.xfr_client.specs.Steps.{numbers_left}
use Rattle.xfr_client.specs.Room.{AllHaveRoom, KeepsRoom, reply_updates, ReplyStopsAt}
use Rattle.zone_asking.specs.declared.limits.Limits.{Limits}
use Rattle.zone_asking.specs.declared.limits.Limit.{Limit}
use Rattle.zone_asking.specs.declared.limits.Limit.TheVariants.{Replies, Octets, Records}

-- the greatest numbers
abbrev pub unlimited : Limits
unlimited = record { replies = 2 ^ 32 - 1; octets = 2 ^ 64 - 1; records = 2 ^ 64 - 1; set_records = None }

-- how many octets messages have together, without the two of length before each
abbrev pub octets_of : List (List ℕ) → ℕ
octets_of messages = sum_by length messages

-- how many records a message's header counts in its answer section (RFC 1035, 4.1.1); none in octets that are no header
abbrev pub records_in : List ℕ → ℕ
records_in m = if has_header m then ancount_in m else 0

-- .. and those of messages together
abbrev pub records_of : List (List ℕ) → ℕ
records_of messages = sum_by records_in messages

-- messages that pass no limit
pub record Within (limits : Limits) (messages : List (List ℕ)) : Type 0 where
  pub replies : length messages ≤ limits.replies
  pub octets : octets_of messages ≤ limits.octets
  pub records : records_of messages ≤ limits.records

-- the first limit that one message more would pass behind these
abbrev pub passed : Limits → List (List ℕ) → List ℕ → Option Limit
passed limits before m =
    if nat_lt limits.replies (length before + 1) then Some Replies
    else if nat_lt limits.octets (octets_of before + length m) then Some Octets
    else if nat_lt limits.records (records_of before + records_in m) then Some Records
    else None

-- what is left of limits behind some messages
pub record IsLeft (limits : Limits) (messages : List (List ℕ)) (left : Limits) : Type 0 where
  pub replies : length messages + left.replies ≡ limits.replies
  pub octets : octets_of messages + left.octets ≡ limits.octets
  pub records : records_of messages + left.records ≡ limits.records

-- ---- the records of one set

-- each of these replies, behind those before it, adds to no set that is full
abbrev pub RepliesHaveRoom : Option ℕ → Asking → List (List ℕ) → List (List ℕ) → Type 0
RepliesHaveRoom most a taken [] = Unit {0}
RepliesHaveRoom most a taken (m ∷ more) =
    AllHaveRoom most (numbers_left a.base) (client_so_far a taken).progress (reply_updates a taken m) × RepliesHaveRoom most a (taken ++ m ∷ []) more

-- the last of some replies was refused: those before it had room, and so had its updates as far as they were done
pub record LastHadRoom (most : Option ℕ) (a : Asking) (replies : List (List ℕ)) (before handles : List Commit) (s : Session) : Type 0 where
  pub taken : List (List ℕ)
  pub last : List ℕ
  pub all : replies ≡ taken ++ last ∷ []
  pub room : RepliesHaveRoom most a [] taken
  pub kept : KeepsRoom most a.base before s handles (client_so_far a taken).progress (reply_updates a taken last)

-- no update that was done adds to a full set
abbrev pub KeepsSets : Option ℕ → Asking → List (List ℕ) → List Commit → List Commit → Session → Type 0
KeepsSets most a replies before handles s = RepliesHaveRoom most a [] replies ⊎ LastHadRoom most a replies before handles s

-- the first update of the last reply that wasn't done does
pub record AddsToFull (most : Option ℕ) (a : Asking) (replies : List (List ℕ)) (before handles : List Commit) (s : Session) : Type 0 where
  pub taken : List (List ℕ)
  pub last : List ℕ
  pub all : replies ≡ taken ++ last ∷ []
  pub stops : ReplyStopsAt most a s before handles taken last true
