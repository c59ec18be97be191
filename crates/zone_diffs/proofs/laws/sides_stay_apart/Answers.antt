use Rattle.zone_diffs.proofs.Cancelling.{apart-added, apart-removed}
use Rattle.zone_diffs.proofs.laws.sides_stay_apart.Goals as goal

pub returns-clause-added : goal.returns-clause-added
returns-clause-added c = apart-added

pub returns-clause-removed : goal.returns-clause-removed
returns-clause-removed c = apart-removed
