-- What a client of a transfer stands for: the replies that it has taken, one fact for each thing that it keeps.
use Rattle.std.specs.Prelude.{◌≡◌, ◌⊎◌, ℕ, Bool, true, false, List, [], ◌∷◌, ◌++◌, Option, Some, None, Result, Ok, Err}
use Rattle.std.specs.List.{list_all}
use Rattle.tsig_port.specs.Tsig.{TsigKey}
use Rattle.tsig_port.specs.Checked.{passing, first_fault}
use Rattle.tsig_port.specs.States.{ClientStands}
use Rattle.tsig_port.specs.declared.errors.ValidationError.{ValidationError}
use Rattle.zone_model.specs.Commits.{Commit}
use Rattle.zone_reads.specs.Session.{Session}
use Rattle.zone_model.specs.TransferText.{Mode, Axfr}
use Rattle.xfr_model.specs.Machine.{Place, InWhole}
use Rattle.xfr_course.specs.Outcome.{Outcome, Ended}
use Rattle.xfr_course.specs.Client.{run_message}
use Rattle.xfr_course.specs.Courses.{has_header}
use Rattle.xfr_client.specs.SoFar.{Asking, asked_mac, asked_id, asked_question, asked_serial, asked_course, checked_so_far, fault_so_far, client_so_far}
use Rattle.xfr_client.specs.Steps.{HasMade, Ahead, RanOut}
use Rattle.xfr_client.specs.Ending.{answer_of}
use Rattle.xfr_client.specs.declared.exchange.Exchange.{Exchange}
use Rattle.xfr_outcomes.specs.declared.outcome.SyncOk.{SyncOk}
use Rattle.xfr_outcomes.specs.declared.outcome.SyncError.{SyncError}
use Rattle.xfr_outcomes.specs.declared.outcome.SyncError.TheVariants as why

-- what a client keeps: how it asks, the exchange that is under way, how many records a set may get, and whether the last reply was
-- refused since one has as many
pub record ClientState : Type 0 where
  pub key : TsigKey
  pub mode : Mode
  pub at : ℕ
  pub exchange : Option Exchange
  pub most : Option ℕ
  pub full : Bool

-- whether a request was made, and neither an outcome nor a refusal came since
abbrev pub asking_of : ClientState → Commit → Asking
asking_of c base = record { key = c.key; mode = c.mode; at = c.at; base = base }

-- each of these replies passed the tests after those before it, whatever comes after them
pub record Passed (fault : List (List ℕ) → List ℕ → Option ValidationError) (taken : List (List ℕ)) : Type 0 where
  pub passing : (more : List (List ℕ)) → passing fault [] (taken ++ more) ≡ taken ++ passing fault taken more
  pub faults : (more : List (List ℕ)) → first_fault fault [] (taken ++ more) ≡ first_fault fault taken more
  pub headed : list_all has_header taken ≡ true

-- an exchange stands for the replies taken so far: signatures, place in the text, and updates done
pub record ExchangeStands (e : Exchange) (s : Session) (a : Asking) (taken : List (List ℕ)) (before handles : List Commit) : Type 0 where
  pub key : e.sequence.key ≡ a.key
  pub sequence : ClientStands (λ k. k) e.sequence (asked_mac a) taken
  pub id : e.id ≡ asked_id a
  pub question : e.question ≡ asked_question a
  pub serial : e.serial ≡ asked_serial a
  pub interpreter : e.interpreter ≡ record { begun = (client_so_far a taken).begun; place = (client_so_far a taken).place; signalled = false }
  pub unmet : (client_so_far a taken).met ≡ None
  pub ahead : Ahead a.base before e.updater s handles (client_so_far a taken).progress
  pub passed : Passed (fault_so_far a) taken

-- a client with its session, and the handles made after those that were there before, stands for the replies taken so far
pub record Stands (c : ClientState) (s : Session) (a : Asking) (taken : List (List ℕ)) (before handles : List Commit) : Type 0 where
  pub asks : asking_of c a.base ≡ a
  pub exchange : Exchange
  pub under_way : c.exchange ≡ Some exchange
  pub stands : ExchangeStands exchange s a taken before handles

-- after these replies the client is in a whole text: where the whole zone is asked for it always is between them
abbrev pub IsInWhole : Place → Type 0
IsInWhole (InWhole first) = Unit {0}
IsInWhole place = ⊥

abbrev pub ReadsWhole : Asking → List (List ℕ) → Type 0
ReadsWhole a taken = (a.mode ≡ Axfr) ⊎ IsInWhole (client_so_far a taken).place

-- One reply more.

-- nothing is pending, and the handles are those of versions committed since the request
pub record Settled (a : Asking) (s : Session) (before handles : List Commit) (taken : List (List ℕ)) : Type 0 where
  pub made : HasMade a.base before s handles (client_so_far a taken).progress.committed
  pub pending : s.pending ≡ s.current.version

-- a reply that passed the tests, and meets the outcome that is answered so
pub record Meets (a : Asking) (taken : List (List ℕ)) (m : List ℕ) (answer : Result SyncOk SyncError) : Type 0 where
  pub outcome : Outcome
  pub answers : answer ≡ answer_of outcome
  pub headed : has_header m ≡ true
  pub sound : fault_so_far a taken m ≡ None
  pub met : (client_so_far a (taken ++ m ∷ [])).met ≡ Some outcome

-- a reply whose updates were begun when memory ran out
pub record RunsOut (a : Asking) (s : Session) (before handles : List Commit) (taken : List (List ℕ)) (m : List ℕ) : Type 0 where
  pub headed : has_header m ≡ true
  pub sound : fault_so_far a taken m ≡ None
  pub ran_out : RanOut a.base before s handles (client_so_far a taken).progress (run_message (asked_course a [] Ended) (client_so_far a taken) (checked_so_far m)).updates

-- why a reply is refused: it is too short; its signature; want of memory; or what it says
abbrev pub RefusesReply : Asking → Session → List Commit → List Commit → List (List ℕ) → List ℕ → SyncError → Type 0
RefusesReply a s before handles taken m (why.Short e) = (has_header m ≡ false) × Settled a s before handles taken
RefusesReply a s before handles taken m (why.Tsig e) = (has_header m ≡ true) × (fault_so_far a taken m ≡ Some e) × Settled a s before handles taken
RefusesReply a s before handles taken m why.Memory = RunsOut a s before handles taken m × (s.pending ≡ s.current.version)
RefusesReply a s before handles taken m e = Meets a taken m (Err e) × Settled a s before handles (taken ++ m ∷ [])

-- what becomes of a reply
abbrev pub TakesReply : Asking → ClientState → Session → List Commit → List Commit → List (List ℕ) → List ℕ → Result (Option SyncOk) SyncError → Type 0
TakesReply a c s before handles taken m (Ok None) = Stands c s a (taken ++ m ∷ []) before handles
TakesReply a c s before handles taken m (Ok (Some done)) = Meets a taken m (Ok done) × Settled a s before handles (taken ++ m ∷ [])
TakesReply a c s before handles taken m (Err e) = RefusesReply a s before handles taken m e
