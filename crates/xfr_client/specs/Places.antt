-- The places that the interpreter's code keeps, as places of the machine.
use Rattle.std.specs.Prelude.{ℕ, Bool, true, false, Option, Some, None}
use Rattle.dns_rdata.specs.Records.{Record}
use Rattle.dns_rdata.specs.Soa.{serial_of}
use Rattle.xfr_model.specs.Machine as machine
use Rattle.xfr_client.specs.declared.interpreter_state.Place.{Place}
use Rattle.xfr_client.specs.declared.interpreter_state.Stage.{Stage}
use Rattle.xfr_client.specs.declared.interpreter_state.Stage.TheVariants.{AtSecond, InWhole, InDeletes, InAdds, AtEnd}

-- the place at a stage of a text that begins with this record
abbrev pub place_at : Stage → Record → machine.Place
place_at AtSecond s = machine.AtSecond s
place_at InWhole s = machine.InWhole s
place_at InDeletes s = machine.InDeletes s
place_at InAdds s = machine.InAdds s
place_at AtEnd s = machine.AtEnd

abbrev pub place_of : Place → machine.Place
place_of p = place_at p.stage p.first

-- whether one record was read of a text that may be of either form
abbrev pub is_at_second : machine.Place → Bool
is_at_second machine.AtStart = false
is_at_second (machine.AtSecond s) = true
is_at_second (machine.InWhole s) = false
is_at_second (machine.InDeletes s) = false
is_at_second (machine.InAdds s) = false
is_at_second machine.AtEnd = false

-- the serial of the text's first SOA record, up to the end
abbrev pub first_serial : machine.Place → Option ℕ
first_serial machine.AtStart = None
first_serial (machine.AtSecond s) = Some (serial_of s.fields)
first_serial (machine.InWhole s) = Some (serial_of s.fields)
first_serial (machine.InDeletes s) = Some (serial_of s.fields)
first_serial (machine.InAdds s) = Some (serial_of s.fields)
first_serial machine.AtEnd = None
