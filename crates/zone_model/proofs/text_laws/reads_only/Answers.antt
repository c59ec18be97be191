use Rattle.zone_model.proofs.OneReading.{only_this}
use Rattle.zone_model.proofs.text_laws.reads_only.Goals as goal

pub returns : goal.returns
returns c = only_this
