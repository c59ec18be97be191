use Rattle.std.proofs.Common.{ap}
use Rattle.zone_histories.specs.Histories.{ascends}
use Rattle.zone_histories.proofs.versioned.Versioned.new.Goals as goal

pub invariant_of-result : goal.invariant_of-result
invariant_of-result g c = ap ascends c.new.ensures.items
