use Rattle.std.proofs.Common.{refl}
use Rattle.tsig_port.proofs.OnLiterals.{on_literals}
use Rattle.tsig_port.proofs.examples.refusals.Goals as goal

pub returns-clause-head : goal.returns-clause-head
unfolding on_literals
returns-clause-head c = refl

pub returns-clause-record : goal.returns-clause-record
unfolding on_literals
returns-clause-record c = refl

pub returns-clause-forwarded : goal.returns-clause-forwarded
unfolding on_literals
returns-clause-forwarded c = refl

pub returns-clause-late : goal.returns-clause-late
unfolding on_literals
returns-clause-late c = refl

pub returns-clause-short : goal.returns-clause-short
unfolding on_literals
returns-clause-short c = refl

pub returns-clause-no_tsig : goal.returns-clause-no_tsig
unfolding on_literals
returns-clause-no_tsig c = refl
