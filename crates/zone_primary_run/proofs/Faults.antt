-- An answer that tells of no device.
use Rattle.std.specs.Prelude.{◌≢◌, ℕ, Result, Err}
use Rattle.std.proofs.Common.{refl}
use Rattle.zone_serving.specs.declared.errors.ServeError.TheVariants.{SourceFault, SinkFault}
use Rattle.zone_serving.specs.declared.serving.Served.{Served}
use Rattle.zone_primary_run.specs.PrimaryFaults.{TellsFaults}
use Rattle.zone_primary_run.specs.declared.errors.PrimaryError.{PrimaryError}
use Rattle.zone_primary_run.specs.declared.errors.PrimaryError.TheVariants.{ScriptFault, Stream}

-- no device was met
pub none_met : (script source sink : ℕ) (answer : Result Served PrimaryError) → answer ≢ Err ScriptFault → answer ≢ Err (Stream SourceFault) → answer ≢ Err (Stream SinkFault)
    → TellsFaults script script source source sink sink answer
none_met script source sink answer f g h = record {
  script_failed = λ e. absurd (f e);
  script_steady = λ n. refl;
  source_failed = λ e. absurd (g e);
  source_steady = λ n. refl;
  sink_failed = λ e. absurd (h e);
  sink_steady = λ n. refl;
}
