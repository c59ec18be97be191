use Rattle.zone_diffs.proofs.Cancelling.{holds-taken, holds-behind}
use Rattle.zone_diffs.proofs.laws.sides_of_one_ttl.Goals as goal

pub returns-clause-comes : goal.returns-clause-comes
returns-clause-comes c b k s h one = holds-behind b.removed b.added k s h.added one

pub returns-clause-comes_again : goal.returns-clause-comes_again
returns-clause-comes_again c b k s h = holds-taken b.removed k s h.removed

pub returns-clause-goes : goal.returns-clause-goes
returns-clause-goes c b k s h one = holds-behind b.added b.removed k s h.removed one

pub returns-clause-goes_again : goal.returns-clause-goes_again
returns-clause-goes_again c b k s h = holds-taken b.added k s h.added
