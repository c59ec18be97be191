use Rattle.name_keys.proofs.Nesting.{under_by_test, under_by_keys}
use Rattle.name_keys.proofs.laws.keys_begin_with_those_above.Goals as goal

pub returns-clause-test : goal.returns-clause-test
returns-clause-test c = under_by_test

pub returns-clause-rest : goal.returns-clause-rest
returns-clause-rest c = under_by_keys
