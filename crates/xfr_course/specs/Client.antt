-- A client that reads message by message and applies updates one by one: what it has committed, and how it ends (RFC 5936, 6; RFC 1995, 4).
use Rattle.std.specs.Prelude.{◌≡◌, ℕ, Bool, true, false, ◌++◌, if◌then◌else◌, List, [], ◌∷◌, Option, Some, None, is_some, unwrap_or}
use Rattle.zone_model.specs.Version.{Version}
use Rattle.zone_model.specs.TransferText.{Mode, Ixfr}
use Rattle.zone_model.specs.Updates.{Update, Progress, UpdateFault, Edit, NotSoaRecord, AfterFinish, begin}
use Rattle.xfr_model.specs.Read.{Fault, Refused, request_fault}
use Rattle.xfr_course.specs.Outcome.{Outcome, Updated, Reading, VersionsExhausted, Checked, Course, room, after_retry, made, outcome}
use Rattle.xfr_model.specs.Machine.{Place, AtStart, InWhole, InDeletes, InAdds, is_at_end, Run, run_items, next_items, signal_of}
use Rattle.xfr_model.specs.Applying.{Halt, Denied, NoNumber, Held, apply_within, DeniedEdit}

-- what a client keeps: whether a message was taken, the interpreter's place, the updater's progress, and the outcome once it is met
pub record Client : Type 0 where
  pub begun : Bool
  pub place : Place
  pub progress : Progress
  pub met : Option Outcome

abbrev pub new_client : Course → Client
new_client c = record { begun = false; place = AtStart; progress = begin c.base; met = None }

-- the outcome of an update that isn't done; one that comes out of turn has none, and there is never such a one (UpdatesInTurn)
abbrev pub halt_outcome : Halt → Option Outcome
halt_outcome NoNumber = Some VersionsExhausted
halt_outcome (Denied (Edit e)) = Some (Reading (Refused e))
halt_outcome (Denied NotSoaRecord) = None
halt_outcome (Denied AfterFinish) = None

-- the outcome that a message brings, by its updates, its fault, its retry signal, and whether it ends the text
abbrev pub met_after : Course → Option Halt → Option Fault → Option ℕ → Bool → Option Outcome
met_after c (Some h) f n ended = halt_outcome h
met_after c None (Some f) n ended = Some (Reading f)
met_after c None None (Some n) ended = Some (after_retry c n)
met_after c None None None ended = if ended then Some Updated else None

abbrev pub client_after : Course → Bool → Run → Held → Client
client_after c begun a h = record { begun = true; place = a.place; progress = h.progress; met = met_after c h.halt a.fault (signal_of begun a) (is_at_end a.place) }

abbrev pub run_message : Course → Client → Checked → Run
run_message c cl k = run_items c.mode cl.place (next_items (request_fault c.id c.question) cl.begun k.message)

-- one checked message: its updates are applied in turn as they are told
abbrev pub take_checked : Course → Client → Checked → Client
take_checked c cl k = if is_some cl.met then cl else client_after c cl.begun (run_message c cl k) (apply_within (room c) cl.progress (run_message c cl k).updates)

abbrev pub take_course : Course → Client → List Checked → Client
take_course c cl [] = cl
take_course c cl (k ∷ more) = take_course c (take_checked c cl k) more

abbrev pub client_of : Course → Client
client_of c = take_course c (new_client c) c.checked

-- the law of the client: it has committed the versions made, and ends with the outcome, or with what came in place of a next message
pub record ClientSays (c : Course) : Type 0 where
  pub made : (client_of c).progress.committed ≡ made c
  pub outcome : unwrap_or (client_of c).met c.stop ≡ outcome c

abbrev pub ClientMeets : Type 0
ClientMeets = (c : Course) → ClientSays c

-- an outcome that was met is the outcome whatever is checked after it, with the versions made by then
pub record Decided (c : Course) (ks more : List Checked) (o : Outcome) : Type 0 where
  pub outcome : outcome (record c { checked = ks ++ more }) ≡ o
  pub made : made (record c { checked = ks ++ more }) ≡ made (record c { checked = ks })

abbrev pub MetDecides : Type 0
MetDecides = (c : Course) (ks more : List Checked) (o : Outcome) → (take_course c (new_client c) ks).met ≡ Some o → Decided c ks more o

-- .. and where none is met, the course goes on: its outcome is what comes in place of a next message
abbrev pub UnmetStops : Type 0
UnmetStops = (c : Course) (ks : List Checked) → (take_course c (new_client c) ks).met ≡ None → outcome (record c { checked = ks }) ≡ c.stop

-- checked messages may be taken in two lots
abbrev pub CourseOn : Type 0
CourseOn = (c : Course) (cl : Client) (ks more : List Checked) → take_course c cl (ks ++ more) ≡ take_course c (take_course c cl ks) more

-- Between messages.

-- where a client that has met nothing stands: before the first message; or in a text, which is in IXFR form only where changes were asked for
abbrev pub IsBetween : Bool → Place → Mode → Type 0
IsBetween false AtStart mode = Unit {0}
IsBetween true (InWhole first) mode = Unit {0}
IsBetween true (InDeletes first) Ixfr = Unit {0}
IsBetween true (InAdds first) Ixfr = Unit {0}
IsBetween _ _ _ = ⊥

pub record StandsBetween (c : Course) (cl : Client) : Type 0 where
  pub place : IsBetween cl.begun cl.place c.mode
  pub before_end : is_at_end cl.place ≡ false

abbrev pub BetweenMessages : Type 0
BetweenMessages = (c : Course) (ks : List Checked) → (take_course c (new_client c) ks).met ≡ None → StandsBetween c (take_course c (new_client c) ks)

-- .. and what is denied of a next message's updates is an edit: none names a record that is no SOA, and none comes after the end
abbrev pub UpdatesInTurn : Type 0
UpdatesInTurn = (c : Course) (ks : List Checked) (k : Checked) (f : UpdateFault) → (take_course c (new_client c) ks).met ≡ None
    → (apply_within (room c) (take_course c (new_client c) ks).progress (run_message c (take_course c (new_client c) ks) k).updates).halt ≡ Some (Denied f) → DeniedEdit f

-- Want of memory.

-- versions, and some that come after them
pub record IsPart (short long : List Version) : Type 0 where
  pub rest : List Version
  pub is : long ≡ short ++ rest

-- a client that gives up anywhere, after some checked messages and some updates of the next one, has committed a first part of the versions made
abbrev pub PartIsMade : Type 0
PartIsMade = (c : Course) (ks : List Checked) (k : Checked) (more : List Checked) (us vs : List Update) → (take_course c (new_client c) ks).met ≡ None
    → (run_message c (take_course c (new_client c) ks) k).updates ≡ us ++ vs
    → IsPart (apply_within (room c) (take_course c (new_client c) ks).progress us).progress.committed (made (record c { checked = ks ++ k ∷ more }))
