use Rattle.std.proofs.Common.{◌-◌}
use Rattle.dns_name.proofs.Decoding.{HasRead}
use Rattle.dns_name.proofs.parsed.decode.Given as goal

abbrev pub invariant-loop-step : goal.invariant-loop-step
invariant-loop-step l = HasRead l.octets l.message l.pos l.pointers l.after (512 - l.step) l.place
