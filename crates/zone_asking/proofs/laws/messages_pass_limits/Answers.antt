use Rattle.zone_asking.proofs.Limiting.{none_passed, some_passed}
use Rattle.zone_asking.proofs.laws.messages_pass_limits.Goals as goal

pub returns-clause-within : goal.returns-clause-within
returns-clause-within c = none_passed

pub returns-clause-beyond : goal.returns-clause-beyond
returns-clause-beyond c = some_passed
