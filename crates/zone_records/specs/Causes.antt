-- What an answer for a whole file says.
use Rattle.std.specs.Prelude.{List, Option, Some, None}
use Rattle.dns_name.specs.Names.{Name}
use Rattle.zone_records.specs.declared.errors.FileError.{FileError}
use Rattle.zone_records.specs.declared.errors.FileError.TheVariants.{Errors, Memory}

-- the refusals, and none for want of memory
abbrev pub errors_in : {T : Type 0} → FileError T → Option (List (Name × T))
errors_in {T} (Errors errors) = Some errors
errors_in {T} Memory = None
