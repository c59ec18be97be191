-- The errors of an exchange that come of reading.
use Rattle.std.specs.Prelude.{◌≡◌, ◌⊎◌}
use Rattle.message_frames.specs.declared.reading.FrameError.{FrameError}
use Rattle.message_frames.specs.declared.reading.FrameError.TheVariants as frame
use Rattle.xfr_outcomes.specs.declared.outcome.SyncError.TheVariants.{Memory}
use Rattle.zone_asking.specs.declared.limits.Limit as limits
use Rattle.zone_asking.specs.declared.errors.AskError.{AskError}
use Rattle.zone_asking.specs.declared.errors.AskError.TheVariants.{Transfer, Cut, Limit, SourceFault}

-- no further message was read
abbrev pub of_frame : FrameError → AskError
of_frame frame.Cut = Cut
of_frame frame.Fault = SourceFault
of_frame frame.Memory = Transfer Memory

-- no further message was read, or one that would have passed a limit
abbrev pub ComesOfReading : AskError → Type 0
ComesOfReading e = ((x : FrameError) × (e ≡ of_frame x)) ⊎ ((which : limits.Limit) × (e ≡ Limit which))
