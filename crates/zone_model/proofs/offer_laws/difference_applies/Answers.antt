use Rattle.zone_model.proofs.DifferenceLaws.{difference_applies}
use Rattle.zone_model.proofs.offer_laws.difference_applies.Goals as goal

pub returns : goal.returns
returns c = difference_applies
