use Rattle.xfr_course.proofs.Clients.{client_meets}
use Rattle.xfr_course.proofs.laws.client_meets.Goals as goal

pub returns : goal.returns
returns c = client_meets
