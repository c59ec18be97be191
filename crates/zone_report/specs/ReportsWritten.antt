-- The status and the report of a transfer that was answered, and what a sink took of what there was to write.
use Rattle.std.specs.Prelude.{◌≡◌, ◌≢◌, ◌≤◌, ℕ, List, All, length, take, Option, Result, Ok, Err}
use Rattle.dns_name.specs.Names.{Name}
use Rattle.dns_rdata.specs.Records.{record_wire}
use Rattle.zone_model.specs.Commits.{Commit}
use Rattle.zone_reads.specs.Session.{Session}
use Rattle.zone_devices.specs.Streams.{with_more}
use Rattle.zone_report.specs.Report.{ReaderLine, report}
use Rattle.xfr_outcomes.specs.declared.outcome.SyncOk.{SyncOk}
use Rattle.xfr_outcomes.specs.declared.outcome.SyncError.{SyncError}
use Rattle.xfr_outcomes.specs.declared.outcome.SyncError.TheVariants as why
use Rattle.zone_report.specs.declared.status.Status.{Status}
use Rattle.zone_report.specs.declared.status.Status.TheVariants as ends

-- the status of a transfer's answer
abbrev pub status_by : Result SyncOk SyncError → Status
status_by (Ok done) = ends.Done
status_by (Err why.LinkFault) = ends.LinkFault
status_by (Err why.Memory) = ends.Memory
status_by (Err _) = ends.Refused

-- a reader's numbers beside a transfer that ended with a version of this number: the last isn't less than the first, nor than that
pub record IsReader (ended : ℕ) (r : ReaderLine) : Type 0 where
  pub rises : r.first ≤ r.last
  pub ends : ended ≤ r.last

-- those of so many readers
pub record AreReaders (count ended : ℕ) (readers : List ReaderLine) : Type 0 where
  pub counted : length readers ≡ count
  pub each : All (IsReader ended) readers

-- a transfer that was answered so ends with that status, and octets are its report: the answer, the count of versions made, the records of the last one, what
-- it answers to the questions, and what so many readers saw
pub record Reports (answer : Result SyncOk SyncError) (handles : List Commit) (s : Session) (queries : List (Name × ℕ)) (count : ℕ) (octets : List ℕ) (status : Status) : Type 0 where
  pub ended : status ≡ status_by answer
  pub readers : List ReaderLine
  pub reads : AreReaders count s.current.number readers
  pub is : octets ≡ report record_wire answer (length handles) s.current.version queries readers

-- a sink took octets of which this holds
pub record Took (Holds : List ℕ → Type 0) (old new : Option (List ℕ)) : Type 0 where
  pub octets : List ℕ
  pub due : Holds octets
  pub taken : new ≡ with_more octets old

-- .. or a first part of what belongs to some status
pub record TookFirst (Holds : List ℕ → Status → Type 0) (old new : Option (List ℕ)) : Type 0 where
  pub octets : List ℕ
  pub status : Status
  pub count : ℕ
  pub due : Holds octets status
  pub taken : new ≡ with_more (take count octets) old

-- What a sink took by the end of a run that gave a status.
pub record Wrote (Holds : List ℕ → Status → Type 0) (old new : Option (List ℕ)) (status : Status) : Type 0 where
  -- all that belongs to the status, unless the sink failed
  pub whole : status ≢ ends.SinkFault → Took (λ octets. Holds octets status) old new
  -- where it failed, a first part of what belongs to some status
  pub part : status ≡ ends.SinkFault → TookFirst Holds old new
