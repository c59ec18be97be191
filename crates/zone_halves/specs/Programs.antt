-- Both programs: what comes of it where the secondary's reads what the primary's wrote (docs/SCRIPT.md).
use Rattle.std.specs.Prelude.{◌≡◌, ◌≤◌, ◌⊎◌, ℕ, Bool, true, false, List, [], length, Option, Some, Ok}
use Rattle.tsig_port.specs.Tsig.{TsigKey}
use Rattle.zone_model.specs.Version.{Version, Same}
use Rattle.zone_devices.specs.Calls.{Rose}
use Rattle.zone_devices.specs.Streams.{with_more}
use Rattle.message_frames.specs.Frames.{frame_of}
use Rattle.xfr_services.specs.Items.{Sending}
use Rattle.zone_script.specs.Script.{Script, script_of}
use Rattle.zone_script.specs.ScriptReaders.{wire_readers}
use Rattle.zone_report.specs.declared.status.Status.TheVariants.{Done, Memory}
use Rattle.zone_serving.specs.StreamServing.{SendsJust}
use Rattle.zone_serving.specs.declared.serving.Served.{Served}
use Rattle.zone_primary_run.specs.ScriptPrimaries.{PrimaryParts}
use Rattle.zone_primary_run.specs.PrimaryRuns.{SpellsPrimary, RunsWords, stream_of}
use Rattle.xfr_client.specs.SoFar.{Asking}
use Rattle.zone_asking.specs.declared.limits.Limits.{Limits}
use Rattle.zone_asking.specs.declared.program.RunEnd.{RunEnd}
use Rattle.zone_asking.specs.declared.program.RunEnd.TheVariants.{By}
use Rattle.zone_asking.specs.Wishes.{Wish}
use Rattle.zone_asking.specs.Running.{Met, Runs, Ran}
use Rattle.zone_halves.specs.Meeting.{AreTaken}

-- A run of the primary's program (`run_words`) at a moment: its file had the text of a script, of which this is the primary; its source had the frame of this
-- request and nothing more, and its sink nothing; it ended well, and its sink has this then.
pub record ServesOne (SendsAt : ℕ → PrimaryParts → List ℕ → Option (List Sending) → Type 0) (p : PrimaryParts) (at : ℕ) (request : List ℕ)
    (written : Option (List ℕ)) : Type 0 where
  pub text : List ℕ
  pub spelt : SpellsPrimary text p
  pub file : Option (List ℕ)
  pub opened : Bool
  pub left : Option (List ℕ)
  pub source : Option (List ℕ)
  pub served : Served
  pub runs : RunsWords SendsAt file opened (Some at) (Some text) left (stream_of (Some (frame_of request)) source (Some []) written) (Ok served)

-- what it sends to the request, whatever messages these are, a secondary takes
abbrev pub SendsTaken : (Option (List Sending) → Type 0) → Limits → Asking → Type 0
SendsTaken Sends limits a = (messages : List (List ℕ)) → SendsJust Sends false messages → AreTaken limits a messages

-- no call of the secondary's devices failed: its file, its source, its sink, its report
pub record NoneFailed (m : Met) : Type 0 where
  pub file : ¬ Rose m.file_old m.file_new
  pub source : ¬ Rose m.source_old m.source_new
  pub sink : ¬ Rose m.sink_old m.sink_new
  pub report : ¬ Rose m.report_old m.report_new

-- A run of the secondary's program (`run_secondary`) at a moment: its words ask for this; its file was opened, and had the text of this script with this
-- key; and no device failed.
pub record AsksOnce (w : Wish) (at : ℕ) (script : Script TsigKey) (key : TsigKey) (m : Met) (result : RunEnd) : Type 0 where
  pub text : List ℕ
  pub had : m.left_old ≡ Some text
  pub fits : length text ≤ 16777216
  pub spells : script_of wire_readers text ≡ Ok script
  pub keyed : script.key ≡ Some key
  pub steady : NoneFailed m
  pub runs : Runs (Some w) true (Some at) m result

-- its transfer was made, the whole report of which was written, with success; and the version that it left is this one
pub record Fetched (v : Version) (w : Wish) (at : ℕ) (m : Met) : Type 0 where
  pub octets : List ℕ
  pub ran : Ran w at m.left_old m.streams octets Done
  pub same : Same ran.tried.transfer.session.current.version v
  pub wrote : m.taken_new ≡ with_more octets m.taken_old

-- .. or memory ran out
abbrev pub ProgramDelivers : Version → Wish → ℕ → Met → RunEnd → Type 0
ProgramDelivers v w at m result = ((result ≡ By Done) × Fetched v w at m) ⊎ (result ≡ By Memory)
