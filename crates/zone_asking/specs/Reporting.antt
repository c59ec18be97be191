-- What the report of the secondary's program says of a transfer's answer, and with which status (docs/SCRIPT.md).
use Rattle.std.specs.Prelude.{ℕ, List, [], ◌∷◌, ◌++◌, flat_map, codes, Option, Some, None, Result, Ok, Err}
use Rattle.dns_name.specs.Names.{Name}
use Rattle.dns_rdata.specs.Records.{record_wire}
use Rattle.zone_model.specs.Version.{Version}
use Rattle.zone_model.specs.Walk.{walk}
use Rattle.zone_report.specs.Report.{report, line, stop_lines, query_lines}
use Rattle.xfr_outcomes.specs.declared.outcome.SyncOk.{SyncOk}
use Rattle.xfr_outcomes.specs.declared.outcome.SyncError.{SyncError}
use Rattle.xfr_outcomes.specs.declared.outcome.SyncError.TheVariants as why
use Rattle.zone_report.specs.declared.status.Status.{Status}
use Rattle.zone_report.specs.declared.status.Status.TheVariants as ends
use Rattle.zone_asking.specs.declared.limits.Limit.TheVariants.{Replies, Octets, Records}
use Rattle.zone_asking.specs.declared.errors.AskError.{AskError}
use Rattle.zone_asking.specs.declared.errors.AskError.TheVariants.{Transfer, Limit, FullSet, SourceFault, SinkFault}
use Rattle.zone_asking.specs.Answers.{sync_answer}

-- the name of the limit that was passed, as the program's words have it
abbrev pub limit_passed : Result SyncOk AskError → Option (List ℕ)
limit_passed (Err (Limit Replies)) = Some (codes "replies")
limit_passed (Err (Limit Octets)) = Some (codes "octets")
limit_passed (Err (Limit Records)) = Some (codes "records")
limit_passed (Err FullSet) = Some (codes "set-records")
limit_passed answer = None

-- the report of a transfer that passed one
abbrev pub limit_report : List ℕ → Version → List (Name × ℕ) → List ℕ
limit_report limit v queries =
    line (codes "refused" ∷ codes "limit" ∷ limit ∷ []) ++ flat_map (stop_lines record_wire v) (walk v) ++ flat_map (query_lines record_wire v) queries

-- .. and of any other: that of a transfer over a link
abbrev pub report_by : Option (List ℕ) → Result SyncOk SyncError → ℕ → Version → List (Name × ℕ) → List ℕ
report_by (Some limit) answer n v queries = limit_report limit v queries
report_by None answer n v queries = report record_wire answer n v queries []

abbrev pub ask_report : Result SyncOk AskError → ℕ → Version → List (Name × ℕ) → List ℕ
ask_report answer n v queries = report_by (limit_passed answer) (sync_answer answer) n v queries

-- the status
abbrev pub ask_status : Result SyncOk AskError → Status
ask_status (Ok done) = ends.Done
ask_status (Err SourceFault) = ends.LinkFault
ask_status (Err SinkFault) = ends.LinkFault
ask_status (Err (Transfer why.LinkFault)) = ends.LinkFault
ask_status (Err (Transfer why.Memory)) = ends.Memory
ask_status answer = ends.Refused
