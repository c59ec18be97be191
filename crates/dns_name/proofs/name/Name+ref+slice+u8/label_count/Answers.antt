use Rattle.std.proofs.Common.{arith}
use Rattle.dns_name.proofs.WireForms.{few_labels}
use Rattle.dns_name.proofs.name.«Name+ref+slice+u8».label_count.Goals as goal

pub overflow_add-count : goal.overflow_add-count
overflow_add-count c = let few = few_labels c.args.self.now c.borrowed-rest.ensures.name in omega (arith, few, c.loop-tail.invariant)

pub returns-clause-bound : goal.returns-clause-bound
returns-clause-bound c = let few = few_labels c.args.self.now c.borrowed-rest.ensures.name in omega (arith, few, c.loop-tail.invariant)
