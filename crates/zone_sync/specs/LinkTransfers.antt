-- A transfer over a link: what passed over it, and what it commits and answers, whatever octets the link hands back (RFC 5936, 6; RFC 8945, 5.3).
use Rattle.std.specs.Prelude.{◌≡◌, ◌≢◌, ◌↔◌, ℕ, ◌<◌, ◌⊎◌, true, false, List, [], ◌∷◌, ◌++◌, Option, Some, None, Result, Err, length, min}
use Rattle.dns_wire.specs.declared.builder.PushError.TheVariants.{ShortBuf}
use Rattle.dns_wire.specs.declared.message.ShortMessage.{ShortMessage}
use Rattle.xfr_client.specs.Standing.{ClientState, Stands}
use Rattle.zone_model.specs.Commits.{Commit}
use Rattle.zone_reads.specs.Session.{Session}
use Rattle.xfr_course.specs.Outcome.{NoSoa, LinkFault, Ended, Short}
use Rattle.xfr_client.specs.SoFar.{Asking, asked_octets, lacks_soa, CanAsk}
use Rattle.xfr_client.specs.Transfers.{Transfers, HasShort, ComesLater}
use Rattle.zone_devices.specs.Links.{LinkLists, LinkWentOn}
use Rattle.zone_sync.specs.Serving.{ServedBy, SentOf, IsServed}
use Rattle.xfr_server.specs.Items.{Sending, sent_by}
use Rattle.xfr_outcomes.specs.declared.outcome.SyncOk.{SyncOk}
use Rattle.xfr_outcomes.specs.declared.outcome.SyncError.{SyncError}
use Rattle.xfr_outcomes.specs.declared.outcome.SyncError.TheVariants as why

-- ---- what passed over the link

-- the last take of a reply was told that no more come; or that of the request, where none was handed
abbrev pub RepliesEnded : Option LinkLists → Type 0
RepliesEnded None = Unit {0}
RepliesEnded (Some l) = l.replies.ended ≡ true

abbrev pub RequestsEnded : Option LinkLists → Type 0
RequestsEnded None = Unit {0}
RequestsEnded (Some l) = l.requests.ended ≡ true

abbrev pub IsEnded : List (List ℕ) → Option LinkLists → Type 0
IsEnded [] l = RequestsEnded l
IsEnded (m ∷ more) l = RepliesEnded l

-- ---- parts of a transfer

-- a primary's replies, given to the link
pub record Serves (Sends : Option (List Sending) → Type 0) (old new : Option LinkLists) (answer : Result (Unit {0}) SyncError) : Type 0 where
  pub sent : List (List ℕ)
  pub link : LinkWentOn old new [] [] sent []
  pub by : ServedBy Sends sent answer

-- the same of a stream that gives these items
pub record SendsItems (items : List Sending) (old new : Option LinkLists) (answer : Result (Unit {0}) SyncError) : Type 0 where
  pub sent : List (List ℕ)
  pub link : LinkWentOn old new [] [] sent []
  pub by : SentOf items sent answer

-- .. and so far: what is left goes on with what was sent
pub record SentSoFar (items : List Sending) (Left : List Sending → Type 0) (old new : Option LinkLists) : Type 0 where
  pub sent : List (List ℕ)
  pub rest : List Sending
  pub left : Left rest
  pub link : LinkWentOn old new [] [] sent []
  pub joined : sent_by items ≡ record { messages = sent ++ (sent_by rest).messages; fails = (sent_by rest).fails }

-- replies taken until the outcome is met
pub record EndsSo (a : Asking) (old new : Option LinkLists) (before handles : List Commit) (s : Session) (answer : Result SyncOk SyncError) : Type 0 where
  pub taken : List (List ℕ)
  pub link : LinkWentOn old new [] [] [] taken
  pub transfers : Transfers a taken before handles s answer
  pub short : (e : ShortMessage) → answer ≡ Err (why.Short e) → HasShort taken
  pub ended : answer ≡ Err why.Ended → RepliesEnded new
  pub later : ComesLater answer

-- .. and so far
pub record TakenSoFar (a : Asking) (old new : Option LinkLists) (c : ClientState) (s : Session) (before handles : List Commit) (n : ℕ) : Type 0 where
  pub taken : List (List ℕ)
  pub count : length taken ≡ n
  pub link : LinkWentOn old new [] [] [] taken
  pub stands : Stands c s a taken before handles

-- why no request came to the link, by the answer: it can't be made; or it can, and the link refuses it
abbrev pub NotAsked : Asking → ℕ → Result SyncOk SyncError → Type 0
NotAsked a longest (Err why.NoSoa) = lacks_soa a ≡ true
NotAsked a longest (Err (why.Request ShortBuf)) = (lacks_soa a ≡ false) × (min longest 65535 < length (asked_octets a))
NotAsked a longest (Err why.LinkFault) = CanAsk a longest
NotAsked a longest (Err why.Memory) = Unit {0}
NotAsked a longest answer = ⊥

-- no answer after that says that the request can't be made
abbrev pub ComesAfter : Result SyncOk SyncError → Type 0
ComesAfter (Err why.NoSoa) = ⊥
ComesAfter (Err (why.Request e)) = ⊥
ComesAfter answer = Unit {0}

-- The request: the link was given it, signed, since it can be made; or nothing, and the answer says why. So an answer other than want of memory is
-- `NoSoa` exactly where an SOA lacks, and else `Request(ShortBuf)` exactly where the request is too long.
abbrev pub Asks : Asking → ℕ → List (List ℕ) → List (List ℕ) → Result SyncOk SyncError → Type 0
Asks a longest asked heard answer =
    (CanAsk a longest × ComesAfter answer × (asked ≡ asked_octets a ∷ []))
    ⊎ (NotAsked a longest answer × (asked ≡ []) × (heard ≡ []))

-- the law of requests that can't be made: but for want of memory each such answer comes exactly for its cause
pub record RefusedExactly (a : Asking) (longest : ℕ) (answer : Result SyncOk SyncError) : Type 0 where
  pub soa : (answer ≡ Err why.NoSoa) ↔ (lacks_soa a ≡ true)
  pub too_long : lacks_soa a ≡ false → (answer ≡ Err (why.Request ShortBuf)) ↔ (min longest 65535 < length (asked_octets a))

abbrev pub RefusesExactly : Type 0
RefusesExactly = (a : Asking) (longest : ℕ) (asked heard : List (List ℕ)) (answer : Result SyncOk SyncError) → Asks a longest asked heard answer → answer ≢ Err why.Memory → RefusedExactly a longest answer

-- What passed and what was done, from the request on, where a primary sends so.
pub record SyncSays (Sends : List ℕ → Option (List Sending) → Type 0) (a : Asking) (longest : ℕ) (old new : Option LinkLists) (before handles : List Commit) (s : Session) (answer : Result SyncOk SyncError) : Type 0 where
  pub asked : List (List ℕ)
  pub heard : List (List ℕ)
  pub sent : List (List ℕ)
  pub replies : List (List ℕ)
  pub link : LinkWentOn old new asked heard sent replies
  -- the one request is the secondary's, or there is none
  pub request : Asks a longest asked heard answer
  -- what it sent is the primary's answer to the request that it heard
  pub served : IsServed Sends heard sent replies answer
  pub transfers : Transfers a replies before handles s answer
  -- the causes of what comes in place of a reply
  pub short : (e : ShortMessage) → answer ≡ Err (why.Short e) → (HasShort heard × (sent ≡ [])) ⊎ HasShort replies
  pub ended : answer ≡ Err why.Ended → IsEnded heard new
