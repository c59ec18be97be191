use Rattle.std.proofs.Common.{◌≡◌, ◌≤◌, ◌-◌, length, take}
use Rattle.zone_devices.specs.Streams.{with_first}
use Rattle.message_frames.proofs.reading.fill.Given as goal

abbrev pub invariant-filling : goal.invariant-filling
invariant-filling g l = record {
  size : length l.buf ≡ length l.initial.buf;
  within : l.done ≤ length l.buf;
  octets : with_first (take l.done l.buf) (g.S.Source.remaining l.src) ≡ g.S.Source.remaining l.initial.src;
  steady : g.S.Source.faults l.src ≡ g.S.Source.faults l.initial.src;
}

abbrev pub decreases-filling : goal.decreases-filling
decreases-filling g l = length l.initial.buf - l.done
