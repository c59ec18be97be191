-- The lines and fields that the code reads, as those of the definitions.
use Rattle.std.specs.Prelude.{ℕ, Bool, true, ◌==◌, List, [], Option, Some, None, option_map}
use Rattle.std.specs.Option.{option_map_or}
use Rattle.std.specs.Result.{result_ok}
use Rattle.std.specs.List.{slice_split}
use Rattle.dns_name.specs.Names.{Name}
use Rattle.dns_name.specs.Octets.{◌>>=◌}
use Rattle.tsig_keys.specs.declared.algorithms.Algorithm.{Algorithm}
use Rattle.tsig_port.specs.Tsig.{TsigKey, new_key}
use Rattle.zone_script.specs.ScriptLines as scripts
use Rattle.zone_script.specs.ScriptLines.{number_below}
use Rattle.zone_script.specs.ScriptReaders.{or_none, length_field}
use Rattle.zone_script.specs.declared.fields.Line.{Line}
use Rattle.zone_script.specs.declared.fields.Line.TheVariants as line
use Rattle.zone_script.specs.declared.fields.Change.{Change}
use Rattle.zone_script.specs.declared.fields.Change.TheVariants as change

abbrev pub change_of : Change → scripts.Change
change_of (change.Plus added) = scripts.Plus added
change_of (change.Minus deleted) = scripts.Minus deleted
change_of change.Commit = scripts.Commit

abbrev pub line_of : Line → scripts.Line TsigKey
line_of (line.Zone apex class) = scripts.ZoneLine apex class
line_of (line.Key key) = scripts.KeyLine key
line_of (line.At primary secondary) = scripts.AtLine primary secondary
line_of (line.Primary found) = scripts.PrimaryLine found
line_of (line.Secondary found) = scripts.SecondaryLine found
line_of (line.Change c) = scripts.ChangeLine (change_of c)
line_of (line.Query name rtype) = scripts.QueryLine name rtype

-- an edit's record has the class of the zones
abbrev pub is_of_class : ℕ → scripts.Line TsigKey → Bool
is_of_class class (scripts.ChangeLine (scripts.Plus r)) = r.class == class
is_of_class class (scripts.ChangeLine (scripts.Minus r)) = r.class == class
is_of_class class _ = true

-- the fields of what is left of a line
abbrev pub fields_in : Option (List ℕ) → List (List ℕ)
fields_in rest = option_map_or (slice_split (λ o. o == 32)) rest []

-- the length of a MAC, up to that of the longest whole one, which has 64 octets; or a hyphen for the whole
abbrev pub mac_len_field : List ℕ → Option (Option ℕ)
mac_len_field field = or_none None (λ f. option_map Some (number_below 65 f)) field

-- the key of its parts, the lengths as they are written
abbrev pub key_from : Algorithm → List ℕ → Name → List ℕ → List ℕ → Option TsigKey
key_from a s n signing least = do
  long ← length_field signing
  short ← length_field least
  result_ok (new_key a s n short long)
