use Rattle.xfr_course.proofs.Succeeding.{granted_succeeds}
use Rattle.xfr_course.proofs.laws.granted_succeeds.Goals as goal

pub returns : goal.returns
returns c = granted_succeeds
