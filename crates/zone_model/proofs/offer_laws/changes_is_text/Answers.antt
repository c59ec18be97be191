use Rattle.zone_model.proofs.ChangesText.{changes_is_text}
use Rattle.zone_model.proofs.offer_laws.changes_is_text.Goals as goal

pub returns : goal.returns
returns c = changes_is_text
