-- What a run of the secondary's program writes, and what passes over its streams: the report of its transfer, the number of a bad line, or a notice.
use Rattle.std.specs.Prelude.{◌≡◌, ◌≢◌, ◌⊎◌, ◌<◌, ◌≤◌, ◌++◌, ℕ, Bool, true, false, List, [], ◌∷◌, length, take, codes, Option, Some, None, IfSome, IsTrue, Result, Ok, Err}
use Rattle.dns_name.specs.Names.{Name}
use Rattle.tsig_port.specs.Tsig.{TsigKey}
use Rattle.zone_model.specs.Commits.{Commit}
use Rattle.zone_reads.specs.Session.{Session}
use Rattle.zone_model.specs.TransferText.{Mode}
use Rattle.zone_devices.specs.Calls.{Rose}
use Rattle.zone_devices.specs.Streams.{with_more}
use Rattle.zone_script.specs.Script as scripts
use Rattle.zone_script.specs.Script.{script_of, secondary_version}
use Rattle.zone_script.specs.ScriptReaders.{wire_readers}
use Rattle.zone_script.specs.declared.script.Script as read_scripts
use Rattle.xfr_client.specs.SoFar.{Asking, asks_with}
use Rattle.zone_report.specs.Notices.{exit_status, fault_line, long_line, is_fault, is_reported}
use Rattle.zone_script.specs.BadLines.{NamesLine}
use Rattle.zone_report.specs.ReportsWritten.{Wrote}
use Rattle.zone_report.specs.StreamFaults.{TellsSink, TellsSource}
use Rattle.xfr_outcomes.specs.declared.outcome.SyncOk.{SyncOk}
use Rattle.zone_report.specs.declared.status.Status.{Status}
use Rattle.zone_report.specs.declared.status.Status.TheVariants as ends
use Rattle.zone_asking.specs.declared.limits.Limits.{Limits}
use Rattle.zone_asking.specs.declared.errors.AskError.{AskError}
use Rattle.zone_asking.specs.declared.program.RunEnd.{RunEnd}
use Rattle.zone_asking.specs.declared.program.RunEnd.TheVariants.{By, NoFile, NoClock}
use Rattle.zone_asking.specs.Exchanges.{Crossing}
use Rattle.zone_asking.specs.Retries.{ExchangesByRule}
use Rattle.zone_asking.specs.Wishes.{Wish}
use Rattle.zone_asking.specs.Reporting.{ask_report, ask_status}

-- ---- the notices before a script is read

-- the words ask for nothing
abbrev pub usage_line : List ℕ
usage_line = codes "usage: zone_peer secondary axfr FILE [LIMIT N].. / ixfr FILE [LIMIT N].., LIMIT: replies, octets, records, set-records" ++ 10 ∷ []

-- the file that they name can't be opened
abbrev pub unopened_line : List ℕ
unopened_line = codes "the script can't be opened" ++ 10 ∷ []

-- the moment isn't known
abbrev pub clock_line : List ℕ
clock_line = codes "the clock can't be read" ++ 10 ∷ []

-- ---- the transfer of a script's secondary

-- nothing passed over the streams
pub record Untouched (x : Crossing) : Type 0 where
  pub unread : x.left_new ≡ x.left_old
  pub unwritten : x.taken_new ≡ x.taken_old

-- one transfer was made over them within limits, to a secondary without handles yet: its answer, the versions that it made, and the session that it left
pub record Transferred (limits : Limits) (a : Asking) (x : Crossing) : Type 0 where
  pub answer : Result SyncOk AskError
  pub handles : List Commit
  pub session : Session
  pub says : ExchangesByRule limits a x [] handles session answer

-- a transfer that was answered so ends with that status, and octets are its report
pub record AskReports (answer : Result SyncOk AskError) (handles : List Commit) (s : Session) (queries : List (Name × ℕ)) (octets : List ℕ)
    (status : Status) : Type 0 where
  pub ended : status ≡ ask_status answer
  pub is : octets ≡ ask_report answer (length handles) s.current.version queries

-- the secondary of a script asks with the script's key and its own zone, whose number is 0, at a moment that is given
abbrev pub asking_at : ℕ → Mode → scripts.Script TsigKey → TsigKey → Asking
asking_at at mode script key = asks_with key mode at (record { number = 0; version = secondary_version script })

-- what the file had, where it tells it, spells a script, and the transfer of the script's secondary was made, as it was wished
pub record Tried (w : Wish) (at : ℕ) (left : Option (List ℕ)) (x : Crossing) : Type 0 where
  pub text : List ℕ
  pub whole : IfSome left (λ had. text ≡ had)
  pub script : scripts.Script TsigKey
  pub spells : script_of wire_readers text ≡ Ok script
  pub key : TsigKey
  pub keyed : script.key ≡ Some key
  pub transfer : Transferred w.limits (asking_at at w.mode script key) x

-- .. and octets are its report
pub record Ran (w : Wish) (at : ℕ) (left : Option (List ℕ)) (x : Crossing) (octets : List ℕ) (status : Status) : Type 0 where
  pub tried : Tried w at left x
  pub reports : AskReports tried.transfer.answer tried.transfer.handles tried.transfer.session tried.script.queries octets status

-- the same of a script that was read
pub record ReportsOn (w : Wish) (at : ℕ) (script : read_scripts.Script) (x : Crossing) (octets : List ℕ) (status : Status) : Type 0 where
  pub transfer : Transferred w.limits (asks_with script.key w.mode at script.secondary) x
  pub reports : AskReports transfer.answer transfer.handles transfer.session script.queries octets status
  pub known : IsTrue (is_reported status)

-- a script that was read, with this key, this zone of the secondary and these questions
abbrev pub with_parts : read_scripts.Script → TsigKey → Commit → List (Name × ℕ) → read_scripts.Script
with_parts script key zone queries = record script { key = key; secondary = zone; queries = queries }

-- What there is to write with a status, and what passed over the streams: one transfer with a report, and nothing without one; where memory ran out, nothing
-- or that transfer. With the status of a failed sink nothing is due, and a first part of what another status would have written was taken.
abbrev pub IsDue : Wish → ℕ → Option (List ℕ) → Crossing → List ℕ → Status → Type 0
IsDue w at left x octets ends.Usage = ⊥
IsDue w at left x octets ends.Script = NamesLine left octets × Untouched x
IsDue w at left x octets ends.SourceFault = (octets ≡ fault_line) × Untouched x
IsDue w at left x octets ends.TooLong = (octets ≡ long_line) × Untouched x
IsDue w at left x octets ends.Memory = (octets ≡ []) × (Untouched x ⊎ Tried w at left x)
IsDue w at left x octets ends.SinkFault = ⊥
IsDue w at left x octets status = Ran w at left x octets status

-- how often source and sink had failed, before and after, and the status
pub record TellsStreams (source_old source_new sink_old sink_new : ℕ) (status : Status) : Type 0 where
  -- a fault of theirs is told only where one of the counts rose
  pub fault : status ≡ ends.LinkFault → Rose source_old source_new ⊎ Rose sink_old sink_new
  -- one that came is told, unless the report's sink fails or memory runs out
  pub source_told : source_old < source_new → (status ≡ ends.LinkFault) ⊎ ((status ≡ ends.SinkFault) ⊎ (status ≡ ends.Memory))
  pub sink_told : sink_old < sink_new → (status ≡ ends.LinkFault) ⊎ ((status ≡ ends.SinkFault) ⊎ (status ≡ ends.Memory))

-- the octets that the file told, where words ask for a transfer, and the status
pub record TellsScript (text : List ℕ) (status : Status) : Type 0 where
  -- more octets than a script may have are too long, up to faults
  pub too_long : 16777216 < length text → (status ≡ ends.TooLong) ⊎ IsTrue (is_fault status)
  -- the first bad line of others is told, up to faults, and only that
  pub bad_line : (n : ℕ) → length text ≤ 16777216 → script_of wire_readers text ≡ Err n → (status ≡ ends.Script) ⊎ IsTrue (is_fault status)
  pub good : (script : scripts.Script TsigKey) → length text ≤ 16777216 → script_of wire_readers text ≡ Ok script
      → (status ≢ ends.Script) × (status ≢ ends.TooLong)

-- ---- a run

-- what a run met, before and after: what its file had left, what passed over its streams, what its report's sink took, and how often each had failed
pub record Met : Type 0 where
  pub left_old : Option (List ℕ)
  pub left_new : Option (List ℕ)
  pub file_old : ℕ
  pub file_new : ℕ
  pub streams : Crossing
  pub source_old : ℕ
  pub source_new : ℕ
  pub sink_old : ℕ
  pub sink_new : ℕ
  pub taken_old : Option (List ℕ)
  pub taken_new : Option (List ℕ)
  pub report_old : ℕ
  pub report_new : ℕ

-- the file, the streams, their faults, the report
abbrev pub met : Option (List ℕ) → Option (List ℕ) → ℕ → ℕ → Crossing → ℕ → ℕ → ℕ → ℕ → Option (List ℕ) → Option (List ℕ) → ℕ → ℕ → Met
met l m f g x a b c d t u r s = record {
  left_old = l;
  left_new = m;
  file_old = f;
  file_new = g;
  streams = x;
  source_old = a;
  source_new = b;
  sink_old = c;
  sink_new = d;
  taken_old = t;
  taken_new = u;
  report_old = r;
  report_new = s;
}

-- Of what is wished, at a moment: what is written with each status, with that of a failed sink a first part of it, and what passed over the streams.
pub record RunsOn (w : Wish) (at : ℕ) (m : Met) (status : Status) : Type 0 where
  pub wrote : Wrote (IsDue w at m.left_old m.streams) m.taken_old m.taken_new status
  -- the statuses of faults come where a count of faults rose; only want of memory and a later fault hide one
  pub file_faults : TellsSource m.file_old m.file_new status
  pub report_faults : TellsSink m.report_old m.report_new status
  pub stream_faults : TellsStreams m.source_old m.source_new m.sink_old m.sink_new status
  -- what the script says decides the status
  pub by_script : (text : List ℕ) → m.left_old ≡ Some text → TellsScript text status

-- a notice was written and this is told; or a first part of it, and that the report's sink failed
abbrev pub Notifies : List ℕ → RunEnd → Option (List ℕ) → Option (List ℕ) → ℕ → ℕ → RunEnd → Type 0
Notifies notice end old new f g result =
    ((result ≡ end) × (new ≡ with_more notice old) × (g ≡ f)) ⊎ ((result ≡ By ends.SinkFault) × ((n : ℕ) × (new ≡ with_more (take n notice) old)) × Rose f g)

-- that is all that happened
pub record StopsWith (notice : List ℕ) (end : RunEnd) (m : Met) (result : RunEnd) : Type 0 where
  pub notifies : Notifies notice end m.taken_old m.taken_new m.report_old m.report_new result
  pub unread : m.left_new ≡ m.left_old
  pub steady : m.file_new ≡ m.file_old
  pub untouched : Untouched m.streams
  pub source_steady : m.source_new ≡ m.source_old
  pub sink_steady : m.sink_new ≡ m.sink_old

-- A run of what the words ask for, whether their file was opened, and the moment, if it is known.
abbrev pub RunsAt : Wish → Option ℕ → Met → RunEnd → Type 0
RunsAt w None m result = StopsWith clock_line NoClock m result
RunsAt w (Some at) m result = (status : Status) × (result ≡ By status) × RunsOn w at m status

abbrev pub RunsWish : Wish → Bool → Option ℕ → Met → RunEnd → Type 0
RunsWish w false at m result = StopsWith unopened_line NoFile m result
RunsWish w true at m result = RunsAt w at m result

abbrev pub Runs : Option Wish → Bool → Option ℕ → Met → RunEnd → Type 0
Runs None opened at m result = StopsWith usage_line (By ends.Usage) m result
Runs (Some w) opened at m result = RunsWish w opened at m result

-- the exit status
abbrev pub end_code : RunEnd → ℕ
end_code (By status) = exit_status status
end_code NoFile = 4
end_code NoClock = 9
