use Rattle.zone_model.proofs.Middle.{sets_make_middle}
use Rattle.zone_model.proofs.offer_laws.sets_make_middle.Goals as goal

pub returns : goal.returns
returns c = sets_make_middle
