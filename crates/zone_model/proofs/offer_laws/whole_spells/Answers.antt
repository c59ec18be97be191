use Rattle.zone_model.proofs.WholeText.{whole_spells}
use Rattle.zone_model.proofs.offer_laws.whole_spells.Goals as goal

pub returns : goal.returns
returns c = whole_spells
