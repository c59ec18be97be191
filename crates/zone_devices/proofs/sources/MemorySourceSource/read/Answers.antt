use Rattle.std.proofs.Common.{rules}
use Rattle.zone_devices.proofs.StreamSteps.{read_part}
use Rattle.zone_devices.proofs.sources.MemorySourceSource.read.Goals as goal

pub returns-clause-octets : goal.returns-clause-octets
returns-clause-octets c =
    rw (← c.self.view_is) (read_part c.self.inside.octets.items _ c.self.inside.place c.min-count.result c.copy_from_slice.new.self (search rules) (search rules))
