use Rattle.std.proofs.Common.{ap, ◌∙◌}
use Rattle.zone_histories.specs.Histories.{ascends}
use Rattle.zone_histories.proofs.Writes.{before_ascends}
use Rattle.zone_histories.proofs.versioned.Versioned.rollback.Goals as goal

pub invariant_of-self : goal.invariant_of-self
invariant_of-self g c = ap ascends c.take_back.ensures ∙ before_ascends c.self.inside.data.items c.args.version c.self.invariant
