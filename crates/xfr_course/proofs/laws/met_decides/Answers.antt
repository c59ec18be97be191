use Rattle.xfr_course.proofs.Clients.{met_decides}
use Rattle.xfr_course.proofs.Clients.{unmet_stops}
use Rattle.xfr_course.proofs.Clients.{course_on}
use Rattle.xfr_course.proofs.laws.met_decides.Goals as goal

pub returns-clause-met : goal.returns-clause-met
returns-clause-met c = met_decides

pub returns-clause-unmet : goal.returns-clause-unmet
returns-clause-unmet c = unmet_stops

pub returns-clause-on : goal.returns-clause-on
returns-clause-on c = course_on
