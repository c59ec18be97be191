use Rattle.zone_handles.proofs.Moves.{handles_stay}
use Rattle.zone_handles.proofs.laws.handles_stay.Goals as goal

pub returns : goal.returns
returns c = handles_stay
