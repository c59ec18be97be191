use Rattle.zone_model.proofs.WholeText.{whole_is_text}
use Rattle.zone_model.proofs.offer_laws.whole_is_text.Goals as goal

pub returns : goal.returns
returns c = whole_is_text
