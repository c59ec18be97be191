use Rattle.std.proofs.Common.{◌≡◌, ◌≤◌, ◌-◌, length, take}
use Rattle.zone_devices.specs.Streams.{with_more}
use Rattle.zone_devices.proofs.sinks.write_all.Given as goal

abbrev pub invariant-loop-written : goal.invariant-loop-written
invariant-loop-written g l = record {
  within : l.written ≤ length l.octets;
  taken : g.K.Sink.taken l.out ≡ with_more (take l.written l.octets) (g.K.Sink.taken l.initial.out);
  steady : g.K.Sink.faults l.out ≡ g.K.Sink.faults l.initial.out;
}

abbrev pub decreases-loop-written : goal.decreases-loop-written
decreases-loop-written g l = length l.octets - l.written
