-- The owners of refused records.
use Rattle.std.specs.Prelude.{Option, Some, None, option_map}
use Rattle.dns_name.specs.Names.{Name}
use Rattle.zone_values.specs.declared.record_errors.RecordError.{RecordError}
use Rattle.zone_values.specs.declared.record_errors.RecordError.TheVariants.{ClassMismatch, IllegalZoneCut, IllegalRecord, IllegalCname, MultipleCnames, InvalidRecord, MissingSoa, Memory}

-- the owner of the record that a refusal is about, if it is about one
abbrev pub owner_in : RecordError → Option Name
owner_in (ClassMismatch found class) = Some found.owner
owner_in (IllegalZoneCut found other) = Some found.owner
owner_in (IllegalRecord found other) = Some found.owner
owner_in (IllegalCname found other) = Some found.owner
owner_in (MultipleCnames found) = Some found.owner
owner_in (InvalidRecord why) = None
owner_in (MissingSoa found) = option_map (λ r. r.owner) found
owner_in Memory = None
