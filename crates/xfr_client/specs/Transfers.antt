-- What a transfer commits and answers, by the replies that were taken (RFC 5936, 6; RFC 8945, 5.3).
use Rattle.std.specs.Prelude.{◌≡◌, ℕ, ◌⊎◌, false, List, Result, Err}
use Rattle.std.specs.List.{list_all}
use Rattle.xfr_course.specs.Courses.{has_header}
use Rattle.zone_model.specs.Version.{Version}
use Rattle.zone_model.specs.Commits.{Commit}
use Rattle.zone_reads.specs.Session.{Session}
use Rattle.xfr_course.specs.Outcome.{Outcome, NoSoa, LinkFault, Ended, Short, Primary, RequestTooLong, Course, made, outcome}
use Rattle.xfr_course.specs.Client.{IsPart}
use Rattle.xfr_client.specs.SoFar.{Asking, course_so_far}
use Rattle.xfr_client.specs.Steps.{HasMade}
use Rattle.xfr_client.specs.Ending.{answer_of}
use Rattle.xfr_outcomes.specs.declared.outcome.SyncOk.{SyncOk}
use Rattle.xfr_outcomes.specs.declared.outcome.SyncError.{SyncError}
use Rattle.xfr_outcomes.specs.declared.outcome.SyncError.TheVariants as why

-- what came in place of a further reply: the request wasn't made, the link or the primary failed, a message was no message; else the link ended
abbrev pub given_up : Result SyncOk SyncError → Outcome
given_up (Err why.NoSoa) = NoSoa
given_up (Err (why.Request e)) = RequestTooLong
given_up (Err why.LinkFault) = LinkFault
given_up (Err (why.Short e)) = Short
given_up (Err (why.Primary e)) = Primary
given_up answer = Ended

-- the course of a transfer that was answered so
abbrev pub course_answered : Asking → List (List ℕ) → Result SyncOk SyncError → Course
course_answered a replies answer = course_so_far a replies (given_up answer)

-- the versions that the checked text spells, in order, as far as there are numbers; where memory ran out a first part of them
abbrev pub AreSpelt : Course → Result SyncOk SyncError → List Version → Type 0
AreSpelt c (Err why.Memory) versions = IsPart versions (made c)
AreSpelt c answer versions = versions ≡ made c

-- memory ran out, or the answer is the one of the course's outcome
abbrev pub AnswersCourse : Course → Result SyncOk SyncError → Type 0
AnswersCourse c answer = (answer ≡ Err why.Memory) ⊎ (answer ≡ answer_of (outcome c))

-- What a transfer does, of which the link handed these replies: it commits exactly the versions that the checked text spells, in order, gives a handle of
-- each, and answers the outcome.
pub record Transfers (a : Asking) (replies : List (List ℕ)) (before handles : List Commit) (s : Session) (answer : Result SyncOk SyncError) : Type 0 where
  pub versions : List Version
  pub spelt : AreSpelt (course_answered a replies answer) answer versions
  pub made : HasMade a.base before s handles versions
  pub answers : AnswersCourse (course_answered a replies answer) answer

-- whether one of these has fewer octets than a header
abbrev pub HasShort : List (List ℕ) → Type 0
HasShort messages = list_all has_header messages ≡ false

-- no answer of a reply is one that comes before it
abbrev pub ComesLater : Result SyncOk SyncError → Type 0
ComesLater (Err why.NoSoa) = ⊥
ComesLater (Err (why.Request e)) = ⊥
ComesLater (Err (why.Primary e)) = ⊥
ComesLater answer = Unit {0}
