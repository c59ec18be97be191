-- What a session holds while it edits, and what its commits tell.
use Rattle.std.specs.Prelude.{◌+◌, Bool, true, false, Option, Some, None, if◌then◌else◌}
use Rattle.zone_model.specs.Version.{Version}
use Rattle.zone_model.specs.Difference.{Difference, difference, diffable}
use Rattle.zone_model.specs.Commits.{Commit}
use Rattle.zone_reads.specs.Session.{Session, with_commit}
use Rattle.zone_changes.specs.Drafts.{Closed}

-- the version that is pending: the published one until the first edit
abbrev pub pending_of : Version → Option Version → Version
pending_of published None = published
pending_of published (Some v) = v

-- the session after a commit that published this version
abbrev pub after_publication : Session → Version → Session
after_publication s v = let c : Commit = record { number = s.current.number + 1; version = v } in
    record { past = with_commit s.past c; current = c; pending = v; compares = false; has_handle = true }

-- the difference that a commit of a draft tells where it is wanted
abbrev pub told_of : Bool → Closed → Option Difference
told_of wanted c = if wanted then (if diffable c.before.base c.version then Some (difference c.before.base c.version) else None) else None
