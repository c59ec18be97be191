use Rattle.std.proofs.Common.{sym, ap, ◌∙◌}
use Rattle.xfr_signing.specs.Failing.{fails}
use Rattle.xfr_services.specs.Replying.{refused}
use Rattle.xfr_signing.proofs.Failing.{errors_fail}
use Rattle.xfr_signing.proofs.laws.refusals_fail_where_long.Goals as goal

pub returns-clause-replies : goal.returns-clause-replies
returns-clause-replies c = errors_fail

pub returns-clause-service : goal.returns-clause-service
returns-clause-service c = λ s r sent is e. (errors_fail r.message refused).0 (ap fails (sym is) ∙ e)
