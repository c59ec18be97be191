-- The answers of a transfer over streams, as those of a transfer over a link.
use Rattle.std.specs.Prelude.{◌≡◌, ◌≢◌, Bool, true, false, ℕ, ◌==◌, if◌then◌else◌, List, [], ◌∷◌, Result, Ok, Err}
use Rattle.dns_wire.specs.Wire.{header_in}
use Rattle.xfr_course.specs.Courses.{has_header}
use Rattle.xfr_outcomes.specs.declared.protocol.Error.TheVariants.{NotValidXfrResponse}
use Rattle.xfr_outcomes.specs.declared.outcome.SyncOk.{SyncOk}
use Rattle.xfr_outcomes.specs.declared.outcome.SyncError.{SyncError}
use Rattle.xfr_outcomes.specs.declared.outcome.SyncError.TheVariants as why
use Rattle.zone_asking.specs.declared.errors.AskError.{AskError}
use Rattle.zone_asking.specs.declared.errors.AskError.TheVariants.{Transfer, Response, Cut, Limit, FullSet, SourceFault, SinkFault}

-- the error of a transfer that an error over streams is: a stream that ends within a frame, or isn't read on, ends; a reply that would add to a full set
-- ends where memory would run out; and a fault of either stream is one of the link
abbrev pub sync_error : AskError → SyncError
sync_error (Transfer e) = e
sync_error (Response code) = why.Xfr NotValidXfrResponse
sync_error Cut = why.Ended
sync_error (Limit which) = why.Ended
sync_error FullSet = why.Memory
sync_error SourceFault = why.LinkFault
sync_error SinkFault = why.LinkFault

abbrev pub sync_answer : Result SyncOk AskError → Result SyncOk SyncError
sync_answer (Ok done) = Ok done
sync_answer (Err e) = Err (sync_error e)

-- ---- response codes (RFC 1035, 4.1.1)

-- the response code of a message; NOERROR of octets that are no header
abbrev pub code_in : List ℕ → ℕ
code_in m = if has_header m then (header_in m).rcode else 0

-- .. of the last of some messages
abbrev pub last_code : List (List ℕ) → ℕ
last_code [] = 0
last_code (m ∷ []) = code_in m
last_code (m ∷ n ∷ more) = last_code (n ∷ more)

-- the error of a reply: one that is none of a transfer is told by its response code, where it has one
abbrev pub told_by : SyncError → ℕ → AskError
told_by (why.Xfr NotValidXfrResponse) code = if code == 0 then Transfer (why.Xfr NotValidXfrResponse) else Response code
told_by e code = Transfer e

-- .. and one that would add to a full set is told as that
abbrev pub told_of : Bool → SyncError → ℕ → AskError
told_of true e code = FullSet
told_of false e code = told_by e code

-- .. and so the answer after some replies: the code is that of the last one
abbrev pub TellsCode : List (List ℕ) → Result SyncOk AskError → Type 0
TellsCode replies (Err (Response code)) = (code ≢ 0) × (last_code replies ≡ code)
TellsCode replies (Err (Transfer (why.Xfr NotValidXfrResponse))) = last_code replies ≡ 0
TellsCode replies answer = Unit {0}
