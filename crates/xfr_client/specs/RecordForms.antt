-- Records that have wire forms, and data of their types (RFC 1035, 3.2.1).
use Rattle.std.specs.Prelude.{List, IsTrue}
use Rattle.std.specs.List.{AllByRecursion}
use Rattle.dns_rdata.specs.Records.{Record, is_data}
use Rattle.dns_wire.specs.Written.{IsRecord}

abbrev pub HasForm : Record → Type 0
HasForm r = IsRecord r × IsTrue (is_data r.rtype r.fields)

abbrev pub HaveForms : List Record → Type 0
HaveForms rs = AllByRecursion HasForm rs
