use Rattle.zone_sync.proofs.SetLimits.{limit_holds, counts_within}
use Rattle.zone_sync.proofs.laws.limits_on_sets_hold.Goals as goal

pub returns : goal.returns
returns c = record { law = limit_holds; counts = counts_within }
