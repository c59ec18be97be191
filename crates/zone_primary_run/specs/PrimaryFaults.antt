-- Which answer of a primary's run tells that a device failed.
use Rattle.std.specs.Prelude.{◌≡◌, ◌≢◌, ℕ, Result, Err}
use Rattle.zone_devices.specs.Calls.{Rose}
use Rattle.zone_serving.specs.declared.errors.ServeError.TheVariants.{SourceFault, SinkFault}
use Rattle.zone_serving.specs.declared.serving.Served.{Served}
use Rattle.zone_primary_run.specs.declared.errors.PrimaryError.{PrimaryError}
use Rattle.zone_primary_run.specs.declared.errors.PrimaryError.TheVariants.{ScriptFault, Stream}

-- how often the script's source, the stream's source and its sink had failed, before and after, and the answer: a fault is told only where the count rose,
-- and with any other answer none came
pub record TellsFaults (script_old script_new source_old source_new sink_old sink_new : ℕ) (answer : Result Served PrimaryError) : Type 0 where
  pub script_failed : answer ≡ Err ScriptFault → Rose script_old script_new
  pub script_steady : answer ≢ Err ScriptFault → script_new ≡ script_old
  pub source_failed : answer ≡ Err (Stream SourceFault) → Rose source_old source_new
  pub source_steady : answer ≢ Err (Stream SourceFault) → source_new ≡ source_old
  pub sink_failed : answer ≡ Err (Stream SinkFault) → Rose sink_old sink_new
  pub sink_steady : answer ≢ Err (Stream SinkFault) → sink_new ≡ sink_old
