use Rattle.std.proofs.Common.{◌-◌}
use Rattle.dns_name.proofs.Decoding.{HasCounted}
use Rattle.dns_name.proofs.parsed.name_end.Given as goal

abbrev pub invariant-loop-step : goal.invariant-loop-step
invariant-loop-step l = HasCounted l.len l.message l.pos l.pointers l.after (512 - l.step) l.place
