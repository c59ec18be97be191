use Rattle.xfr_model.proofs.PageReading.{pages_are_read}
use Rattle.xfr_model.proofs.reading_laws.pages_are_read.Goals as goal

pub returns : goal.returns
returns c = pages_are_read
