-- A session of a worked example, under `example.`.
use Rattle.std.specs.Prelude.{[], ◌∷◌, true, false}
use Rattle.published.specs.History.{Past}
use Rattle.zone_model.specs.Commits.{Commit}
use Rattle.zone_model.specs.ZoneRows as rows
use Rattle.zone_reads.specs.Session.{Session}

abbrev pub commit : Commit
commit = record { number = 7; version = rows.zone (rows.soa 1 ∷ []) }

-- a history that opened with a version numbered 7
abbrev pub past : Past Commit
past = record { book = record { number = 0; log_name = 0; cells_name = 0 }; list = commit ∷ []; last = commit }

-- a session that has added an address and a DS without NS, and was asked for a difference
abbrev pub session : Session
session = record { past = past; current = past.last; pending = rows.zone (rows.soa 1 ∷ rows.address rows.t 1 ∷ rows.ds rows.sub ∷ []); compares = true; has_handle = false }
