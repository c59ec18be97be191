use Rattle.std.proofs.Common.{◌++◌, length}
use Rattle.dns_wire.specs.Wire.{Message}
use Rattle.zone_lookup.specs.Sending.{Stands}
use Rattle.zone_lookup.proofs.Adding.{Kept, with_additional}
use Rattle.zone_lookup.proofs.sections.push_records.Given as goal

abbrev pub invariant-records : goal.invariant-records
invariant-records l = (m : Message) → Stands m l.initial.section → Kept (with_additional m) l.section l.initial.section l.rest (m.additional ++ l.records)

abbrev pub decreases-records : goal.decreases-records
decreases-records l = length l.rest
