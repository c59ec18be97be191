-- Which status tells that a stream failed (docs/SCRIPT.md).
use Rattle.std.specs.Prelude.{◌≡◌, ◌≢◌, ◌⊎◌, ◌<◌, ℕ}
use Rattle.zone_devices.specs.Calls.{Rose}
use Rattle.zone_report.specs.declared.status.Status.{Status}
use Rattle.zone_report.specs.declared.status.Status.TheVariants as ends

-- how often the source had failed, before and after, and the status
pub record TellsSource (old new : ℕ) (status : Status) : Type 0 where
  -- its fault is told only where the count rose
  pub fault : status ≡ ends.SourceFault → Rose old new
  -- one that came is told, unless the sink fails
  pub told : old < new → (status ≡ ends.SourceFault) ⊎ (status ≡ ends.SinkFault)

-- the same of the sink
pub record TellsSink (old new : ℕ) (status : Status) : Type 0 where
  -- its fault is told only where the count rose
  pub fault : status ≡ ends.SinkFault → Rose old new
  -- with any other status none came
  pub steady : status ≢ ends.SinkFault → new ≡ old
