-- What an updater keeps beside its session, and what both stand for.
use Rattle.std.specs.Prelude.{◌≡◌, ◌⊎◌, ℕ, ◌+◌, ◌-◌, ◌^◌, ◌==◌, ◌&&◌, Bool, true, false, List, [], ◌∷◌, Option, None}
use Rattle.zone_model.specs.Version.{Version}
use Rattle.zone_model.specs.Commits.{Commit}
use Rattle.zone_model.specs.Difference.{Difference}
use Rattle.zone_reads.specs.Session.{Session, with_pending, told_difference}
use Rattle.zone_model.specs.Updates.{Update, BeginBatchDelete, Finished, Progress}
use Rattle.xfr_model.specs.Applying.{commits}
use Rattle.zone_model.specs.Edits.{set_soa}

-- whether equal data are passed over, and whether the end has come
pub record Updating : Type 0 where
  pub replacing : Bool
  pub finished : Bool

-- the progress that an updater and its session stand for, after these commits
abbrev pub progress_of : Updating → Session → List Version → Progress
progress_of u s committed = record { committed = committed; pending = s.pending; replacing = u.replacing; finished = u.finished }

-- the version that a session has as its current one, where it was just committed
abbrev pub new_version : Bool → Session → List Version
new_version true s = s.current.version ∷ []
new_version false s = []

-- the current commit, the next one where an update committed
abbrev pub next_commit : Bool → Commit → Version → Commit
next_commit true last v = record { number = last.number + 1; version = v }
next_commit false last v = last

-- whether an update commits, and the version before has the greatest number
abbrev pub lacks_number : ℕ → Update → Bool
lacks_number number u = commits u && (number == 2 ^ 64 - 1)

-- how a session stands where an update isn't applied: as before, or with the SOA record of the end pending
abbrev pub Leaves : Update → Session → Session → Type 0
Leaves (Finished r) old new = (new ≡ old) ⊎ (new ≡ with_pending old (set_soa old.pending r))
Leaves _ old new = new ≡ old

-- the difference that an update tells of a session: the one of its commit, where one is wanted (RFC 1995, 4)
abbrev pub told_by : Session → Update → Option Difference
told_by s (BeginBatchDelete r) = told_difference s false
told_by s (Finished r) = told_difference (with_pending s (set_soa s.pending r)) false
told_by s _ = None

-- whether a difference is wanted of the next commit after an update
abbrev pub wants_after : Bool → Update → Bool
wants_after wanted (BeginBatchDelete r) = true
wants_after wanted (Finished r) = false
wants_after wanted _ = wanted
