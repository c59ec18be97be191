use Rattle.xfr_course.proofs.HonestLaw.{honest_succeeds}
use Rattle.xfr_course.proofs.laws.honest_succeeds.Goals as goal

pub returns : goal.returns
returns c = honest_succeeds
