use Rattle.std.proofs.Common.{◌≡◌, ◌-◌, vec_len}
use Rattle.zone_devices.specs.Streams.{with_first}
use Rattle.zone_devices.proofs.read_to_end.read_whole.Given as goal

abbrev pub invariant-reading : goal.invariant-reading
invariant-reading g l = record {
  read : with_first l.octets.items (g.S.Source.remaining l.src) ≡ g.S.Source.remaining l.initial.src;
  steady : g.S.Source.faults l.src ≡ g.S.Source.faults l.initial.src;
}

abbrev pub decreases-reading : goal.decreases-reading
decreases-reading g l = 16777217 - vec_len l.octets
