use Rattle.std.proofs.Common.{refl}
use Rattle.tsig_port.proofs.OnLiterals.{on_literals}
use Rattle.tsig_port.proofs.key_examples.one_key_exchange_row.Goals as goal

pub returns-clause-accepted : goal.returns-clause-accepted
unfolding on_literals
returns-clause-accepted c = refl

pub returns-clause-taken : goal.returns-clause-taken
unfolding on_literals
returns-clause-taken c = refl

pub returns-clause-strict : goal.returns-clause-strict
unfolding on_literals
returns-clause-strict c = refl
