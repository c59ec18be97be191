use Rattle.zone_changes.proofs.Covering.{covers_put_set, covers_remove_set}
use Rattle.zone_changes.proofs.laws.covers_edits.Goals as goal

pub returns-clause-put : goal.returns-clause-put
returns-clause-put c = covers_put_set

pub returns-clause-removed : goal.returns-clause-removed
returns-clause-removed c = covers_remove_set
