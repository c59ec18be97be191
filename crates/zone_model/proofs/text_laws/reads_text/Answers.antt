use Rattle.zone_model.proofs.Grammar.{reads_text}
use Rattle.zone_model.proofs.text_laws.reads_text.Goals as goal

pub returns : goal.returns
returns c = reads_text
