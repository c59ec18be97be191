use Rattle.zone_reads.proofs.Walks.{visits_once}
use Rattle.zone_handles.proofs.laws.visits_once.Goals as goal

pub returns : goal.returns
returns c = visits_once
