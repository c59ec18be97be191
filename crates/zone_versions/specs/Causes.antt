-- What a refused edit says of the version (RFC 2136, 3.4.2, in this project's profile).
use Rattle.std.specs.Prelude.{Option, Some, None}
use Rattle.zone_model.specs.Edits as edits
use Rattle.zone_model.specs.Edits.{Refusal}
use Rattle.zone_versions.specs.declared.errors.EditError.{EditError}
use Rattle.zone_versions.specs.declared.errors.EditError.TheVariants.{OutOfZone, Incompatible, InvalidData, Memory}

-- the cause in the version, and none for want of memory
abbrev pub refusal_of : EditError → Option Refusal
refusal_of OutOfZone = Some edits.OutOfZone
refusal_of Incompatible = Some edits.Incompatible
refusal_of InvalidData = Some edits.InvalidData
refusal_of Memory = None
