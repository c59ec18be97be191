-- How far single updates have led: an updater, its session, and the handles made (RFC 5936, 6).
use Rattle.std.specs.Prelude.{◌≡◌, ℕ, ◌+◌, ◌-◌, ◌<◌, ◌≤◌, ◌^◌, Bool, true, false, List, [], ◌∷◌, ◌++◌, length, Option, Some, None, Result, Ok, Err, ◌⊎◌}
use Rattle.zone_model.specs.Version.{Version}
use Rattle.zone_model.specs.Commits.{Commit}
use Rattle.zone_model.specs.Commits.{commits_after}
use Rattle.zone_reads.specs.Session.{Session}
use Rattle.zone_model.specs.Updates.{Update, Progress, apply_update}
use Rattle.xfr_model.specs.Read.{Fault}
use Rattle.xfr_model.specs.Applying.{Halt, within, apply_within}
use Rattle.xfr_client.specs.Updating.{Updating, progress_of}
use Rattle.xfr_client.specs.Rest.{Rest}
use Rattle.xfr_outcomes.specs.declared.update.Error.{Error}
use Rattle.xfr_outcomes.specs.declared.update.Error.TheVariants as errors
use Rattle.xfr_client.specs.Ending.{halt_error, ending_error}
use Rattle.xfr_outcomes.specs.declared.outcome.SyncError.{SyncError}
use Rattle.xfr_outcomes.specs.declared.outcome.SyncError.TheVariants.{Memory}

-- the last of the commits that publish these versions after a commit
abbrev pub commit_after : Commit → List Version → Commit
commit_after last [] = last
commit_after last (v ∷ more) = commit_after (record { number = last.number + 1; version = v }) more

-- how many versions can be numbered after a commit
abbrev pub numbers_left : Commit → ℕ
numbers_left base = 2 ^ 64 - 1 - base.number

-- handles and current commit are those of versions committed on a base
pub record HasMade (base : Commit) (before : List Commit) (s : Session) (handles : List Commit) (versions : List Version) : Type 0 where
  pub current : s.current ≡ commit_after base versions
  pub behind : handles ≡ before ++ commits_after base versions

-- nothing was committed, and a difference is wanted as before
abbrev pub StaysStill : Session → Session → Type 0
StaysStill old new = (new.current ≡ old.current) × (new.compares ≡ old.compares)

-- the wish for a difference: as before, or a version was committed between
abbrev pub KeepsWish : Session → Session → Type 0
KeepsWish old new = StaysStill old new ⊎ (old.current.number < new.current.number)

-- an updater and its session have come to this progress
pub record Ahead (base : Commit) (before : List Commit) (u : Updating) (s : Session) (handles : List Commit) (g : Progress) : Type 0 where
  pub progress : progress_of u s g.committed ≡ g
  pub made : HasMade base before s handles g.committed
  pub few : base.number + length g.committed ≤ 2 ^ 64 - 1

-- one update that was done, or why it wasn't; a refusal commits nothing
pub record DoesOne (base : Commit) (before : List Commit) (u : Updating) (s : Session) (handles : List Commit) (g : Progress) (update : Update) : Type 0 where
  pub progress : Progress
  pub done : within (numbers_left base) (apply_update g update) ≡ Ok progress
  pub ahead : Ahead base before u s handles progress

pub record HaltsOne (base : Commit) (g : Progress) (update : Update) (e : Error) : Type 0 where
  pub halt : Halt
  pub halts : within (numbers_left base) (apply_update g update) ≡ Err halt
  pub why : e ≡ halt_error halt

abbrev pub TakesOne : Commit → List Commit → Updating → Session → List Commit → Progress → Update → Result (Unit {0}) Error → Type 0
TakesOne base before u s handles g update (Ok x) = DoesOne base before u s handles g update
TakesOne base before u s handles g update (Err e) = HasMade base before s handles g.committed × ((e ≡ errors.Memory) ⊎ HaltsOne base g update e)

-- updates that were done, of those that a message says
pub record Led (limit : ℕ) (g : Progress) (all : List Update) (p : Progress) (left : List Update) : Type 0 where
  pub done : List Update
  pub joined : all ≡ done ++ left
  pub led : apply_within limit g done ≡ record { progress = p; halt = None }

-- so far in a message: the updates done, and those that are left with their fault and the retry signal
pub record LedOn (base : Commit) (before : List Commit) (u : Updating) (s : Session) (handles : List Commit) (g : Progress) (all left : Rest) : Type 0 where
  pub progress : Progress
  pub led : Led (numbers_left base) g all.run.updates progress left.run.updates
  pub fault : all.run.fault ≡ left.run.fault
  pub retry : all.retry ≡ left.retry
  pub ahead : Ahead base before u s handles progress

-- what ends a message's updates early: an update that isn't done, a fault after them all, or else the retry signal
abbrev pub EndsEarly : Option Halt → Option Fault → Bool → Type 0
EndsEarly (Some h) f retry = Unit {0}
EndsEarly None (Some f) retry = Unit {0}
EndsEarly None None retry = retry ≡ true

-- .. and by what
abbrev pub IsCause : Option Halt → Option Fault → Bool → SyncError → Type 0
IsCause h f retry e = EndsEarly h f retry × (e ≡ ending_error h f)

-- want of memory: some updates were done, and no more
pub record RanOut (base : Commit) (before : List Commit) (s : Session) (handles : List Commit) (g : Progress) (all : List Update) : Type 0 where
  pub progress : Progress
  pub left : List Update
  pub led : Led (numbers_left base) g all progress left
  pub made : HasMade base before s handles progress.committed

-- all updates of a message, and what ends them early
abbrev pub TakesAll : Commit → List Commit → Updating → Session → List Commit → Progress → Rest → Result (Unit {0}) SyncError → Type 0
TakesAll base before u s handles g rest (Ok x) =
    ((apply_within (numbers_left base) g rest.run.updates).halt ≡ None) × (rest.run.fault ≡ None) × (rest.retry ≡ false) × Ahead base before u s handles (apply_within (numbers_left base) g rest.run.updates).progress
TakesAll base before u s handles g rest (Err e) =
    ((e ≡ Memory) × RanOut base before s handles g rest.run.updates)
    ⊎ (HasMade base before s handles (apply_within (numbers_left base) g rest.run.updates).progress.committed × IsCause (apply_within (numbers_left base) g rest.run.updates).halt rest.run.fault rest.retry e)
