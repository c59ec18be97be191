use Rattle.xfr_model.proofs.ReadingBuilt.{built_is_read}
use Rattle.xfr_model.proofs.reading_laws.built_is_read.Goals as goal

pub returns : goal.returns
returns c = built_is_read
