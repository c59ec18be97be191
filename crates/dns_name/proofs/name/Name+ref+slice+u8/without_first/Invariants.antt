use Rattle.std.proofs.Common.{◌≡◌, drop}
use Rattle.dns_name.proofs.name.«Name+ref+slice+u8».without_first.Given as goal

abbrev pub invariant-loop-step : goal.invariant-loop-step
invariant-loop-step l = l.rest ≡ drop l.step l.self
