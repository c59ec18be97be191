-- The line that a refusal of a script names.
use Rattle.std.specs.Prelude.{ℕ, Option, Some, None}
use Rattle.zone_values.specs.declared.record_errors.RecordError.{RecordError}
use Rattle.zone_values.specs.declared.record_errors.RecordError.TheVariants as refused
use Rattle.zone_versions.specs.declared.errors.EditError.{EditError}
use Rattle.zone_versions.specs.declared.errors.EditError.TheVariants as edits
use Rattle.zone_script.specs.declared.script.ScriptError.{ScriptError}
use Rattle.zone_script.specs.declared.script.ScriptError.TheVariants.{Line, Memory}

abbrev pub line_in : ScriptError → Option ℕ
line_in (Line n) = Some n
line_in Memory = None

-- what the refusal of a line's record says of the script: its line, but want of memory stays that
abbrev pub cause_of : ℕ → RecordError → ScriptError
cause_of n refused.Memory = Memory
cause_of n _ = Line n

-- .. and of an edit
abbrev pub edit_cause : ℕ → EditError → ScriptError
edit_cause n edits.Memory = Memory
edit_cause n _ = Line n
