-- A limit on how many records a set may have: the updates that had room, and the one that had none.
use Rattle.std.specs.Prelude.{◌≡◌, ◌⊎◌, ℕ, ◌<◌, ◌≤◌, Bool, true, false, nat_le, List, [], ◌∷◌, length, Option, Some, None, Result, Ok, Err, IfOk}
use Rattle.std.specs.List.{AllByRecursion}
use Rattle.dns_name.specs.Names.{Name}
use Rattle.zone_model.specs.Version.{RecordSet, Key, Version, data_at}
use Rattle.zone_model.specs.Commits.{Commit}
use Rattle.zone_reads.specs.Session.{Session}
use Rattle.zone_model.specs.Updates.{Update, AddRecord, Progress, apply_update}
use Rattle.xfr_model.specs.Applying.{within, apply_within}
use Rattle.xfr_course.specs.Outcome.{Ended}
use Rattle.xfr_course.specs.Client.{run_message}
use Rattle.xfr_client.specs.SoFar.{Asking, asked_course, checked_so_far, client_so_far}
use Rattle.xfr_client.specs.Steps.{numbers_left, HasMade, Led}
use Rattle.xfr_outcomes.specs.declared.outcome.SyncOk.{SyncOk}
use Rattle.xfr_outcomes.specs.declared.outcome.SyncError.{SyncError}
use Rattle.xfr_outcomes.specs.declared.outcome.SyncError.TheVariants.{Memory}

-- how many records an owner and type have
abbrev pub set_count : Version → Name → ℕ → ℕ
set_count v owner rtype = length (data_at v owner rtype)

-- whether a set of so many records is full, where there is a limit
abbrev pub is_full : Option ℕ → ℕ → Bool
is_full None count = false
is_full (Some most) count = nat_le most count

-- whether an update adds a record to a set that is full
abbrev pub adds_to_full : Option ℕ → Version → Update → Bool
adds_to_full most v (AddRecord r) = is_full most (set_count v r.owner r.rtype)
adds_to_full most v update = false

-- each of these updates had room where it was applied, up to the first that isn't done
abbrev pub AllHaveRoom : Option ℕ → ℕ → Progress → List Update → Type 0
AllHaveRoom most limit g [] = Unit {0}
AllHaveRoom most limit g (u ∷ more) = (adds_to_full most g.pending u ≡ false) × IfOk (within limit (apply_update g u)) (λ q. AllHaveRoom most limit q more)

-- no set of a version has more records than these
abbrev pub IsWithin : ℕ → Version → Type 0
IsWithin most v = AllByRecursion (λ (e : Key × RecordSet). length e.1.items ≤ most) v.sets

-- .. nor of what is pending and what was committed
abbrev pub AreWithin : ℕ → Progress → Type 0
AreWithin most g = IsWithin most g.pending × AllByRecursion (IsWithin most) g.committed

-- the law of the limit: from versions within a limit, by updates that have room under it, come versions within it; it must leave room for an SOA
abbrev pub LimitHolds : Type 0
LimitHolds = (most limit : ℕ) (g : Progress) (updates : List Update) → 0 < most → AreWithin most g → AllHaveRoom (Some most) limit g updates → AreWithin most (apply_within limit g updates).progress

-- .. and then no owner and type has more
abbrev pub CountsWithin : Type 0
CountsWithin = (most : ℕ) (v : Version) (owner : Name) (rtype : ℕ) → IsWithin most v → set_count v owner rtype ≤ most

-- some updates of a message were done, all of which had room, and what was committed is theirs
pub record KeepsRoom (most : Option ℕ) (base : Commit) (before : List Commit) (s : Session) (handles : List Commit) (g : Progress) (all : List Update) : Type 0 where
  pub progress : Progress
  pub left : List Update
  pub led : Led (numbers_left base) g all progress left
  pub made : HasMade base before s handles progress.committed
  pub room : AllHaveRoom most (numbers_left base) g led.done

-- .. and whether the first that is left would add to a full set
pub record StopsAt (most : Option ℕ) (base : Commit) (before : List Commit) (s : Session) (handles : List Commit) (g : Progress) (all : List Update) (full : Bool) : Type 0 where
  pub kept : KeepsRoom most base before s handles g all
  pub next : Update
  pub behind : List Update
  pub stops : kept.left ≡ next ∷ behind
  pub test : adds_to_full most kept.progress.pending next ≡ full

-- all updates of a message were looked at, but for want of memory
abbrev pub KeepsAllRoom : Option ℕ → Commit → List Commit → Session → List Commit → Progress → List Update → Result (Unit {0}) SyncError → Type 0
KeepsAllRoom most base before s handles g all result =
    KeepsRoom most base before s handles g all × ((result ≡ Err Memory) ⊎ AllHaveRoom most (numbers_left base) g all)

-- the updates that a reply says, after those taken
abbrev pub reply_updates : Asking → List (List ℕ) → List ℕ → List Update
reply_updates a taken m = (run_message (asked_course a [] Ended) (client_so_far a taken) (checked_so_far m)).updates

-- .. had room: all of them, or those that were done
abbrev pub ReplyKeepsRoom : Option ℕ → Asking → Session → List Commit → List Commit → List (List ℕ) → List ℕ → Result (Option SyncOk) SyncError → Type 0
ReplyKeepsRoom most a s before handles taken m (Ok x) = AllHaveRoom most (numbers_left a.base) (client_so_far a taken).progress (reply_updates a taken m)
ReplyKeepsRoom most a s before handles taken m (Err e) = KeepsRoom most a.base before s handles (client_so_far a taken).progress (reply_updates a taken m)

-- .. and whether the first that wasn't done would add to a full set
abbrev pub ReplyStopsAt : Option ℕ → Asking → Session → List Commit → List Commit → List (List ℕ) → List ℕ → Bool → Type 0
ReplyStopsAt most a s before handles taken m full = StopsAt most a.base before s handles (client_so_far a taken).progress (reply_updates a taken m) full
