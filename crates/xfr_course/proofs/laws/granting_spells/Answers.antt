use Rattle.xfr_course.proofs.GrantingLaw.{granting_spells}
use Rattle.xfr_course.proofs.laws.granting_spells.Goals as goal

pub returns : goal.returns
returns c = granting_spells
