use Rattle.std.proofs.Common.{◌≡◌, drop}
use Rattle.zone_values.proofs.rel_name.label_at.Given as goal

abbrev pub invariant-loop-step : goal.invariant-loop-step
invariant-loop-step l = l.rest ≡ drop l.step l.initial.rest
