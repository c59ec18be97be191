-- What one writing session holds: the current commit, what is pending, and what was asked of it.
use Rattle.std.specs.Prelude.{◌+◌, Bool, true, false, ◌||◌, if◌then◌else◌, [], ◌∷◌, ◌++◌, Option, Some, None}
use Rattle.published.specs.History.{Past}
use Rattle.zone_model.specs.Version.{Version}
use Rattle.zone_model.specs.Edits.{bump, close}
use Rattle.zone_model.specs.Difference.{Difference, difference, diffable}
use Rattle.zone_model.specs.Commits.{Commit}

pub record Session : Type 0 where
  -- the zone's history, all its commits; the last one is the current commit
  pub past : Past Commit
  pub current : Commit
  pub pending : Version
  -- a difference was asked for since the last commit or rollback
  pub compares : Bool
  -- a handle of the current commit is there already
  pub has_handle : Bool

abbrev pub opened_session : Session → Bool → Session
opened_session s compares = record s { compares = s.compares || compares }

abbrev pub with_pending : Session → Version → Session
with_pending s v = record s { pending = v }

-- what a commit publishes
abbrev pub closed : Session → Bool → Version
closed s bumps = close (if bumps then bump s.current.version s.pending else s.pending)

abbrev pub published : Session → Bool → Commit
published s bumps = record { number = s.current.number + 1; version = closed s bumps }

-- a history with one commit more
abbrev pub with_commit : Past Commit → Commit → Past Commit
with_commit p c = record p { list = p.list ++ c ∷ []; last = c }

abbrev pub committed : Session → Bool → Session
committed s bumps = record { past = with_commit s.past (published s bumps); current = published s bumps; pending = closed s bumps; compares = false; has_handle = true }

-- the difference that a commit tells, where one was asked for and the versions have it
abbrev pub told_difference : Session → Bool → Option Difference
told_difference s bumps = if s.compares then (if diffable s.current.version (closed s bumps) then Some (difference s.current.version (closed s bumps)) else None) else None

abbrev pub rolled_back : Session → Session
rolled_back s = record s { pending = s.current.version; compares = false }

-- a session with nothing edited, of a zone with this history
abbrev pub new_session : Past Commit → Session
new_session p = record { past = p; current = p.last; pending = p.last.version; compares = false; has_handle = false }
