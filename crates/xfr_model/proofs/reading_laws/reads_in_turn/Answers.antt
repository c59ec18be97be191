use Rattle.xfr_model.proofs.InTurn.{reads_in_turn}
use Rattle.xfr_model.proofs.reading_laws.reads_in_turn.Goals as goal

pub returns : goal.returns
returns c = reads_in_turn
