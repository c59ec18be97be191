-- What a primary sends to the request that a link handed it (RFC 5936, 2.2).
use Rattle.std.specs.Prelude.{◌≡◌, ℕ, ◌⊎◌, Bool, true, false, List, [], ◌∷◌, ◌++◌, Option, Some, None, Result, Ok, Err}
use Rattle.xfr_server.specs.Items.{Sending, sent_by}
use Rattle.xfr_services.specs.declared.requests.Request.{Request}
use Rattle.xfr_services.specs.declared.requests.TransportSpecificContext.TheVariants.{NonUdp}
use Rattle.xfr_services.specs.declared.services.ServiceError.TheVariants.{InternalError}
use Rattle.xfr_course.specs.Courses.{has_header}
use Rattle.xfr_outcomes.specs.declared.outcome.SyncOk.{SyncOk}
use Rattle.xfr_outcomes.specs.declared.outcome.SyncError.{SyncError}
use Rattle.xfr_outcomes.specs.declared.outcome.SyncError.TheVariants as why

-- a request as a primary is asked it: it came by a stream, and nothing is known of it
abbrev pub request_at : List ℕ → ℕ → Request (Unit {0})
request_at message at = record { message = message; transport = NonUdp; at = at; metadata = tt; reserved = 0 }

-- ---- what was sent, of all that a primary sends

-- all of it
pub record SendsAll (Sends : Option (List Sending) → Type 0) (sent : List (List ℕ)) : Type 0 where
  pub items : List Sending
  pub sends : Sends (Some items)
  pub all : sent_by items ≡ record { messages = sent; fails = false }

-- all in front of a reply that can't be made
pub record SendsUntil (Sends : Option (List Sending) → Type 0) (sent : List (List ℕ)) : Type 0 where
  pub items : List Sending
  pub sends : Sends (Some items)
  pub until : sent_by items ≡ record { messages = sent; fails = true }

-- a first part of it
pub record SendsPart (Sends : Option (List Sending) → Type 0) (sent : List (List ℕ)) : Type 0 where
  pub items : List Sending
  pub sends : Sends (Some items)
  pub rest : List (List ℕ)
  pub part : (sent_by items).messages ≡ sent ++ rest

-- the primary fails, at once or at a later reply
abbrev pub FailsAfter : (Option (List Sending) → Type 0) → List (List ℕ) → Type 0
FailsAfter Sends sent = (Sends None × (sent ≡ [])) ⊎ SendsUntil Sends sent

-- nothing was sent, or a first part
abbrev pub HasBegun : (Option (List Sending) → Type 0) → List (List ℕ) → Type 0
HasBegun Sends sent = (sent ≡ []) ⊎ SendsPart Sends sent

-- messages in front of those of items
pub record IsFront (items : List Sending) (sent : List (List ℕ)) : Type 0 where
  pub rest : List (List ℕ)
  pub part : (sent_by items).messages ≡ sent ++ rest

-- ---- by the answer

-- One case for each answer of a call that has a primary reply.
abbrev pub ServedBy : (Option (List Sending) → Type 0) → List (List ℕ) → Result (Unit {0}) SyncError → Type 0
ServedBy Sends sent (Ok u) = SendsAll Sends sent
ServedBy Sends sent (Err (why.Primary InternalError)) = FailsAfter Sends sent
ServedBy Sends sent (Err why.LinkFault) = HasBegun Sends sent
ServedBy Sends sent (Err why.Memory) = HasBegun Sends sent
ServedBy Sends sent (Err _) = ⊥

-- One case for each answer of a call that sends items: all messages, those in front of an error, or a first part.
abbrev pub SentOf : List Sending → List (List ℕ) → Result (Unit {0}) SyncError → Type 0
SentOf items sent (Ok u) = sent_by items ≡ record { messages = sent; fails = false }
SentOf items sent (Err (why.Primary InternalError)) = sent_by items ≡ record { messages = sent; fails = true }
SentOf items sent (Err why.LinkFault) = IsFront items sent
SentOf items sent (Err why.Memory) = IsFront items sent
SentOf items sent (Err _) = ⊥

-- the primary was asked, and a transfer came of it: a link that fails and want of memory may come while it replies, all
-- else once it has
abbrev pub RepliedTo : (Option (List Sending) → Type 0) → List (List ℕ) → Result SyncOk SyncError → Type 0
RepliedTo Sends sent (Err (why.Primary e)) = FailsAfter Sends sent
RepliedTo Sends sent (Err why.LinkFault) = HasBegun Sends sent
RepliedTo Sends sent (Err why.Memory) = HasBegun Sends sent
RepliedTo Sends sent answer = SendsAll Sends sent

-- it wasn't asked: it sent nothing, and nothing was taken
abbrev pub NotReplied : List (List ℕ) → List (List ℕ) → Result SyncOk SyncError → Type 0
NotReplied sent replies (Err (why.Primary e)) = ⊥
NotReplied sent replies answer = (sent ≡ []) × (replies ≡ [])

-- what the link handed for its request has no header: it sent nothing, nothing was taken, and the answer says so
abbrev pub NoRequest : List (List ℕ) → List (List ℕ) → Result SyncOk SyncError → Type 0
NoRequest sent replies (Err (why.Short e)) = (sent ≡ []) × (replies ≡ [])
NoRequest sent replies answer = ⊥

-- it was handed octets that have a header, or not
abbrev pub HandedTo : Bool → (Option (List Sending) → Type 0) → List (List ℕ) → List (List ℕ)
    → Result SyncOk SyncError → Type 0
HandedTo true Sends sent replies answer = RepliedTo Sends sent answer
HandedTo false Sends sent replies answer = NoRequest sent replies answer

-- what a primary sent to the requests that the link handed, at most one
abbrev pub IsServed : (List ℕ → Option (List Sending) → Type 0) → List (List ℕ) → List (List ℕ) → List (List ℕ) → Result SyncOk SyncError → Type 0
IsServed Sends [] sent replies answer = NotReplied sent replies answer
IsServed Sends (m ∷ []) sent replies answer = HandedTo (has_header m) (Sends m) sent replies answer
IsServed Sends (m ∷ n ∷ more) sent replies answer = ⊥
