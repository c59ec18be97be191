use Rattle.zone_diffs.specs.Building.{lacked_by}
use Rattle.zone_diffs.proofs.Cancelling.{elsewhere-taken, elsewhere-behind}
use Rattle.zone_diffs.proofs.laws.other_sets_stay.Goals as goal

pub returns-clause-added : goal.returns-clause-added
returns-clause-added c b k q s h n = (elsewhere-taken b.removed k q s h.removed n, elsewhere-behind b.added k q (lacked_by b.removed k s) h.added n)

pub returns-clause-removed : goal.returns-clause-removed
returns-clause-removed c b k q s h n = (elsewhere-behind b.removed k q (lacked_by b.added k s) h.removed n, elsewhere-taken b.added k q s h.added n)
