use Rattle.zone_model.proofs.Texts.{reads_back}
use Rattle.zone_model.proofs.text_laws.reads_back.Goals as goal

pub returns : goal.returns
returns c = reads_back
