use Rattle.published.proofs.Lists.{begins_no_later}
use Rattle.published.proofs.laws.beginnings_are_no_later.Goals as goal

pub returns : goal.returns
returns g c xs ys a b p n e f = begins_no_later g.E.Numbered.number_of xs ys a b p n e f
