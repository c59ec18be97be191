use Rattle.zone_model.proofs.ChangesText.{changes_spell}
use Rattle.zone_model.proofs.offer_laws.changes_spell.Goals as goal

pub returns : goal.returns
returns c = changes_spell
