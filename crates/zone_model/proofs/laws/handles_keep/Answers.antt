use Rattle.zone_model.proofs.Handles.{handles_keep}
use Rattle.zone_model.proofs.laws.handles_keep.Goals as goal

pub returns : goal.returns
returns c = handles_keep
