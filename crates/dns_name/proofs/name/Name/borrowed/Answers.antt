use Rattle.dns_name.proofs.WireForms.{wire_invariant, labels_of_wire}
use Rattle.dns_name.proofs.name.Name.borrowed.Goals as goal

pub invariant_of-result : goal.invariant_of-result
invariant_of-result g c = wire_invariant _ _ c.as_slice.ensures.wire c.as_slice.ensures.name

pub returns-clause-value : goal.returns-clause-value
returns-clause-value g c = labels_of_wire _ _ c.as_slice.ensures.wire c.as_slice.ensures.name
