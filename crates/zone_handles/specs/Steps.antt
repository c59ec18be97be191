-- Steps of readers and one writer, and what stands for a zone with its history (RFC 1034, 4.3.5).
use Rattle.std.specs.Prelude.{◌≡◌, ℕ, ◌-◌, ◌^◌, ◌<◌, Bool, true, false, ◌||◌, List, [], ◌∷◌, ◌++◌, length, map, Option, Some, None, Result, Ok, Err, slice_get, option_map}
use Rattle.published.specs.History.{Past}
use Rattle.dns_name.specs.Names.{Name}
use Rattle.zone_model.specs.Version.{Version, in_zone}
use Rattle.zone_model.specs.Edits.{Refusal, bump}
use Rattle.zone_model.specs.Answer.{answer}
use Rattle.zone_reads.specs.Session.{Session, new_session}
use Rattle.zone_model.specs.Commits.{Commit, CommitList, Zone, latest, Event, Open, Edit, Publish, Abandon, Read, after, after_all, AllMayHappen, version_of}
use Rattle.zone_lookup.specs.Answers.{AnsweredBy, answered_by}
use Rattle.zone_values.specs.declared.edit_errors.CommitError.{CommitError}
use Rattle.zone_values.specs.declared.edit_errors.CommitError.TheVariants.{VersionsExhausted as NoNumber, Memory as NoMemory}
use Rattle.zone_handles.specs.declared.errors.HandleError.{HandleError}
use Rattle.zone_handles.specs.declared.errors.HandleError.TheVariants.{OutOfZone, NoHandle}
use Rattle.zone_handles.specs.declared.steps.Step.{Step}
use Rattle.zone_handles.specs.declared.steps.Step.TheVariants.{Edit as EditStep, Open as OpenStep, Commit as CommitStep, Rollback, EndSession, Read as ReadStep, Copy}
use Rattle.zone_handles.specs.ZoneEdits.{edited, can_change}

-- each handle, in order, is the commit at its position
abbrev pub HandlesStand : CommitList → Zone → Type 0
HandlesStand handles z = map (λ c. Some c) handles ≡ map (λ p. slice_get z.commits p) z.positions

-- a session and handles that stand for a zone: the session's history is all its commits, its commit is the latest one, and what is pending is the zone's
pub record StandFor (s : Session) (handles : CommitList) (z : Zone) : Type 0 where
  pub current : latest z.commits ≡ Some s.current
  pub commits : z.commits ≡ s.past.list
  pub last : s.past.last ≡ s.current
  pub pending : s.pending ≡ z.pending
  pub readers : HandlesStand handles z

-- the serial of a pending SOA that is as published is counted on
abbrev pub counted_on : Option Commit → Version → Result Version Refusal
counted_on None v = Ok v
counted_on (Some last) v = Ok (bump last.version v)

-- a read at a position, whatever its reader knew before
abbrev pub read_at : Option ℕ → List Event
read_at None = []
read_at (Some position) = Read position position ∷ []

-- what happens at a step: a read is of the latest commit, and a copy reads where its handle stands
abbrev pub events_of : Step → Zone → List Event
events_of (EditStep edit) z = Edit (edited edit) ∷ []
events_of (OpenStep create_diff) z = Open ∷ []
events_of (CommitStep false) z = Publish ∷ []
events_of (CommitStep true) z = Edit (counted_on (latest z.commits)) ∷ Publish ∷ []
events_of Rollback z = Abandon ∷ []
events_of EndSession z = Abandon ∷ []
events_of ReadStep z = read_at (Some (length z.commits - 1))
events_of (Copy handle) z = read_at (slice_get z.positions handle)

-- what happens at steps in a row
abbrev pub events_of_all : List Step → Zone → List Event
events_of_all [] z = []
events_of_all (s ∷ more) z = events_of s z ++ events_of_all more (after_all (events_of s z) z)

-- what stood for a zone stands for the one that these events make of it, and each of them may happen
abbrev pub Leads : (Zone → List Event) → Session → CommitList → Session → CommitList → Type 0
Leads events s handles t later = (z : Zone) → StandFor s handles z → AllMayHappen (events z) z × StandFor t later (after_all (events z) z)

-- what stood for a zone stands for it still
abbrev pub Stays : Session → CommitList → Session → CommitList → Type 0
Stays s handles t later = (z : Zone) → StandFor s handles z → StandFor t later z

-- a step that can't be made for want of version numbers: a commit after the greatest
abbrev pub Exhausts : Step → Session → Type 0
Exhausts (EditStep edit) s = ⊥
Exhausts (OpenStep create_diff) s = ⊥
Exhausts (CommitStep bumps) s = s.current.number ≡ 2 ^ 64 - 1
Exhausts Rollback s = ⊥
Exhausts EndSession s = ⊥
Exhausts ReadStep s = ⊥
Exhausts (Copy handle) s = ⊥

-- a step that takes memory: an edit that may change something, a commit that has a number, a read, the copy of a handle that is there
abbrev pub TakesMemory : Step → Session → CommitList → Type 0
TakesMemory (EditStep edit) s handles = can_change edit s.pending ≡ true
TakesMemory (OpenStep create_diff) s handles = ⊥
TakesMemory (CommitStep bumps) s handles = s.current.number ≡ 2 ^ 64 - 1 → ⊥
TakesMemory Rollback s handles = ⊥
TakesMemory EndSession s handles = ⊥
TakesMemory ReadStep s handles = Unit {0}
TakesMemory (Copy handle) s handles = handle < length handles

-- why a step is refused
abbrev pub Refuses : Step → Session → CommitList → CommitError → Type 0
Refuses step s handles NoMemory = TakesMemory step s handles
Refuses step s handles NoNumber = Exhausts step s

-- whether the next commit is to tell a difference, after a step: opening may ask for one, and a commit, a rollback and a session's end end that wish
abbrev pub wish_after : Step → Bool → Bool
wish_after (EditStep edit) wish = wish
wish_after (OpenStep create_diff) wish = wish || create_diff
wish_after (CommitStep bumps) wish = false
wish_after Rollback wish = false
wish_after EndSession wish = false
wish_after ReadStep wish = wish
wish_after (Copy handle) wish = wish

-- the same after steps in a row
abbrev pub wish_after_all : List Step → Bool → Bool
wish_after_all [] wish = wish
wish_after_all (s ∷ more) wish = wish_after_all more (wish_after s wish)

-- what a version answers to a question
abbrev pub Answers : Version → Name → ℕ → Result AnsweredBy HandleError → Type 0
Answers v name rtype (Ok a) = (in_zone v name ≡ true) × (a ≡ answered_by v (answer v name rtype))
Answers v name rtype (Err OutOfZone) = in_zone v name ≡ false
Answers v name rtype (Err NoHandle) = ⊥

-- a zone with this history and no readers
abbrev pub opened : Past Commit → Zone
opened p = record { commits = p.list; pending = p.last.version; positions = [] }

abbrev pub OpensSo : Type 0
OpensSo = (p : Past Commit) → latest p.list ≡ Some p.last → StandFor (new_session p) [] (opened p)

-- the session after one that was dropped, with the same handles, stands for the zone in which that one's edits were abandoned
abbrev pub DropAbandons : Type 0
DropAbandons = (s : Session) (handles : CommitList) (z : Zone) → StandFor s handles z → StandFor (new_session s.past) handles (after Abandon z)

-- edits that are abandoned leave every commit and every position
abbrev pub LeaveNoTrace : Type 0
LeaveNoTrace = (z : Zone) (edits : List (Version → Result Version Refusal)) (last : Commit) → latest z.commits ≡ Some last
    → after_all (map (λ e. Edit e) edits ++ Abandon ∷ []) z ≡ record z { pending = last.version }

-- whatever happens, a handle's version is the one at its position then and later
abbrev pub HandlesStay : Type 0
HandlesStay = (z : Zone) (events : List Event) (handles later : CommitList) → HandlesStand handles z → HandlesStand later (after_all events z)
    → (handle : ℕ) (c : Commit) → slice_get handles handle ≡ Some c
    → (version_of z handle ≡ Some c.version) × (option_map (λ (d : Commit). d.version) (slice_get later handle) ≡ Some c.version)
