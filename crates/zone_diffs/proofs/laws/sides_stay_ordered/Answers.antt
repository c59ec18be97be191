use Rattle.zone_diffs.specs.Building.{lacked_by}
use Rattle.zone_diffs.proofs.Cancelling.{sorted-taken, sorted-behind}
use Rattle.zone_diffs.proofs.laws.sides_stay_ordered.Goals as goal

pub returns-clause-added : goal.returns-clause-added
returns-clause-added c b k s h = record { removed = sorted-taken b.removed k s h.removed; added = sorted-behind b.added k (lacked_by b.removed k s) h.added }

pub returns-clause-removed : goal.returns-clause-removed
returns-clause-removed c b k s h = record { removed = sorted-behind b.removed k (lacked_by b.added k s) h.removed; added = sorted-taken b.added k s h.added }
