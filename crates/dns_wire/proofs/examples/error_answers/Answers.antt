use Rattle.std.proofs.Common.{refl}
use Rattle.dns_wire.proofs.OnLiterals.{on_literals}
use Rattle.dns_wire.proofs.examples.error_answers.Goals as goal

pub returns-clause-all_fit : goal.returns-clause-all_fit
unfolding on_literals
returns-clause-all_fit c = refl

pub returns-clause-first_fits : goal.returns-clause-first_fits
unfolding on_literals
returns-clause-first_fits c = refl

pub returns-clause-below_header : goal.returns-clause-below_header
unfolding on_literals
returns-clause-below_header c = refl

pub returns-clause-unread : goal.returns-clause-unread
unfolding on_literals
returns-clause-unread c = refl
