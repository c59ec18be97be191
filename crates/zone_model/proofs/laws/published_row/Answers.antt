use Rattle.zone_model.proofs.Published.{published_by_test}
use Rattle.zone_model.proofs.laws.published_row.Goals as goal

pub returns-clause-test : goal.returns-clause-test
returns-clause-test c = published_by_test
