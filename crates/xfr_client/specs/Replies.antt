-- One reply, step by step: its signature, what it answers, what it says (RFC 8945, 5.3; RFC 5936, 2.2).
use Rattle.std.specs.Prelude.{◌≡◌, ℕ, Bool, true, false, not, List, [], ◌∷◌, ◌++◌, map, Option, Some, None, Result, Ok, Err}
use Rattle.tsig_port.specs.Checked.{taken_message}
use Rattle.tsig_port.specs.States.{ClientStands}
use Rattle.tsig_port.specs.declared.client.ClientSequence.{ClientSequence}
use Rattle.tsig_port.specs.Tsig.{TsigKey}
use Rattle.zone_model.specs.Commits.{Commit}
use Rattle.zone_reads.specs.Session.{Session}
use Rattle.xfr_model.specs.Messages.{ReadMessage, message_of}
use Rattle.xfr_model.specs.Read.{Fault, request_fault, is_other, record_item}
use Rattle.xfr_model.specs.Machine.{Place, Run, run_items}
use Rattle.xfr_client.specs.Rest.{Rest, asks_again}
use Rattle.xfr_client.specs.Interpreting.{Interpreting}
use Rattle.xfr_course.specs.Courses.{has_header}
use Rattle.xfr_client.specs.SoFar.{Asking, asked_mac, asked_id, asked_question, fault_so_far, client_so_far}
use Rattle.xfr_client.specs.Steps.{HasMade}
use Rattle.xfr_client.specs.Standing.{ExchangeStands, Meets, RunsOut}
use Rattle.xfr_client.specs.Ending.{fault_error}
use Rattle.xfr_client.specs.declared.exchange.Exchange.{Exchange}
use Rattle.xfr_outcomes.specs.declared.outcome.SyncOk.{SyncOk}
use Rattle.xfr_outcomes.specs.declared.outcome.SyncError.{SyncError}
use Rattle.xfr_outcomes.specs.declared.outcome.SyncError.TheVariants as why

-- a reply whose signature is checked: it loses its TSIG, and the sequence stands for it too; or the first test that it fails
pub record ChecksReply (a : Asking) (taken : List (List ℕ)) (m message : List ℕ) (s : ClientSequence TsigKey) : Type 0 where
  pub headed : has_header m ≡ true
  pub sound : fault_so_far a taken m ≡ None
  pub loses : message ≡ taken_message m
  pub key : s.key ≡ a.key
  pub stands : ClientStands (λ k. k) s (asked_mac a) (taken ++ m ∷ [])

abbrev pub AnswersReply : Asking → List (List ℕ) → List ℕ → ClientSequence TsigKey → Result (List ℕ) SyncError → Type 0
AnswersReply a taken m s (Ok message) = ChecksReply a taken m message s
AnswersReply a taken m s (Err (why.Short e)) = has_header m ≡ false
AnswersReply a taken m s (Err (why.Tsig e)) = (has_header m ≡ true) × (fault_so_far a taken m ≡ Some e)
AnswersReply a taken m s (Err _) = ⊥

-- a message that is read: the run that its records make, whether it asks for another way of transfer, and where the interpreter then stands
pub record ReadsOn (first : Bool) (mode_run : Run) (rest : Rest) (i : Interpreting) : Type 0 where
  pub run : rest.run ≡ mode_run
  pub retry : rest.retry ≡ asks_again first mode_run
  pub stands : i ≡ record { begun = true; place = mode_run.place; signalled = asks_again first mode_run }

-- whether a message is read, or refused for its fault
abbrev pub TestsReply : Asking → Bool → Place → ReadMessage → Interpreting → Result Rest SyncError → Type 0
TestsReply a begun p m i (Ok rest) = (request_fault (asked_id a) (asked_question a) (not begun) m ≡ None) × ReadsOn (not begun) (run_items a.mode p (map record_item m.answers)) rest i
TestsReply a begun p m i (Err e) = (f : Fault) × ((request_fault (asked_id a) (asked_question a) (not begun) m ≡ Some f) × (e ≡ fault_error f))

-- whether its questions are those of an answer, where they are others or not
abbrev pub IsAnswerTo : Bool → Result (Unit {0}) SyncError → Type 0
IsAnswerTo other (Ok u) = other ≡ false
IsAnswerTo other (Err e) = (other ≡ true) × (e ≡ why.OtherAnswer)

-- whether it answers the request
abbrev pub AnswersRequest : Asking → ReadMessage → List ℕ → Result (Unit {0}) SyncError → Type 0
AnswersRequest a m octets (Ok u) = (is_other (asked_id a) (asked_question a) m ≡ false) × (message_of octets ≡ Some m)
AnswersRequest a m octets (Err e) = (f : Fault) × (((first : Bool) → request_fault (asked_id a) (asked_question a) first m ≡ Some f) × (e ≡ fault_error f))

-- a reply whole
abbrev pub RefusesMessage : Asking → Session → List Commit → List Commit → List (List ℕ) → List ℕ → SyncError → Type 0
RefusesMessage a s before handles taken m (why.Short e) = (has_header m ≡ false) × HasMade a.base before s handles (client_so_far a taken).progress.committed
RefusesMessage a s before handles taken m (why.Tsig e) = (has_header m ≡ true) × (fault_so_far a taken m ≡ Some e) × HasMade a.base before s handles (client_so_far a taken).progress.committed
RefusesMessage a s before handles taken m why.Memory = RunsOut a s before handles taken m
RefusesMessage a s before handles taken m e = Meets a taken m (Err e) × HasMade a.base before s handles (client_so_far a (taken ++ m ∷ [])).progress.committed

abbrev pub TakesMessage : Asking → Exchange → Session → List Commit → List Commit → List (List ℕ) → List ℕ → Result (Option SyncOk) SyncError → Type 0
TakesMessage a x s before handles taken m (Ok None) = ExchangeStands x s a (taken ++ m ∷ []) before handles
TakesMessage a x s before handles taken m (Ok (Some done)) = Meets a taken m (Ok done) × HasMade a.base before s handles (client_so_far a (taken ++ m ∷ [])).progress.committed
TakesMessage a x s before handles taken m (Err e) = RefusesMessage a s before handles taken m e
