-- What is wrong with a zone of records, each of which was taken, said as refusals of records.
use Rattle.std.specs.Prelude.{List, map}
use Rattle.dns_name.specs.Names.{Name}
use Rattle.zone_values.specs.declared.record_errors.ContextError.{ContextError}
use Rattle.zone_values.specs.declared.record_errors.RecordError.{RecordError}
use Rattle.zone_values.specs.declared.record_errors.RecordError.TheVariants.{InvalidRecord}

-- each under the same name
abbrev pub invalid_records : List (Name × ContextError) → List (Name × RecordError)
invalid_records found = map (λ (e : Name × ContextError). (e.0, InvalidRecord e.1)) found
