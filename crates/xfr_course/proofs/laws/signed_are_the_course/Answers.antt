use Rattle.xfr_course.proofs.Joined.{signed_are_the_course}
use Rattle.xfr_course.proofs.laws.signed_are_the_course.Goals as goal

pub returns : goal.returns
returns c = signed_are_the_course
