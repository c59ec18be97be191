use Rattle.xfr_course.proofs.ClientParts.{part_is_made}
use Rattle.xfr_course.proofs.laws.part_is_made.Goals as goal

pub returns : goal.returns
returns c = part_is_made
