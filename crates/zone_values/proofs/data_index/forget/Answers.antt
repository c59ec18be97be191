use Rattle.std.proofs.Common.{subst}
use Rattle.zone_values.specs.DataIndex.{IsIndexed}
use Rattle.zone_values.proofs.data_index.forget.Goals as goal

-- The index was there.
pub returns-in-Ok : goal.returns-in-Ok
returns-in-Ok c items was = c.in-Ok.ensures items (subst (IsIndexed items) c.in-Some.is was)
