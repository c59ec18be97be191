-- What putting data last in a set tells (RFC 2181, 5 and 10.1).
use Rattle.std.specs.Prelude.{◌≡◌, Bool, true, false, ◌&&◌, List, [], Option, is_some, Result, Ok, Err}
use Rattle.std.specs.Option.{option_map_or}
use Rattle.std.specs.List.{list_any}
use Rattle.dns_rdata.specs.Records.{Field, same_data}
use Rattle.zone_model.specs.Version.{RecordSet}
use Rattle.zone_values.specs.declared.rrset_edits.PutError.{PutError}
use Rattle.zone_values.specs.declared.rrset_edits.PutError.TheVariants.{Equal, Second, Memory}

-- whether equal data stand in the set, where there is one
abbrev pub has_equal : List Field → Option RecordSet → Bool
has_equal fields found = list_any (same_data fields) (option_map_or (λ (s : RecordSet). s.items) found [])

-- they are put, or refused for equal data, for standing alone, or for want of memory, in this order
abbrev pub TellsPut : {T : Type 0} → List Field → Bool → Option RecordSet → Result T PutError → Type 0
TellsPut fields alone found (Ok _) = (has_equal fields found ≡ false) × ((alone && is_some found) ≡ false)
TellsPut fields alone found (Err Equal) = has_equal fields found ≡ true
TellsPut fields alone found (Err Second) = (has_equal fields found ≡ false) × ((alone && is_some found) ≡ true)
TellsPut fields alone found (Err Memory) = (has_equal fields found ≡ false) × ((alone && is_some found) ≡ false)
