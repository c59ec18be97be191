use Rattle.dns_name.proofs.WireForms.{octets_short}
use Rattle.dns_name.proofs.name.Name.as_slice.Goals as goal

pub returns-clause-bound : goal.returns-clause-bound
returns-clause-bound g c = rw c.as_slice.ensures (octets_short _ c.self.invariant)
