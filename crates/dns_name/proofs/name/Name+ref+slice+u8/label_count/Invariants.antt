use Rattle.std.proofs.Common.{◌≡◌, ◌+◌, length}
use Rattle.dns_name.proofs.name.«Name+ref+slice+u8».label_count.Given as goal

abbrev pub invariant-loop-tail : goal.invariant-loop-tail
invariant-loop-tail l = l.count + length l.rest ≡ length l.self

abbrev pub decreases-loop-tail : goal.decreases-loop-tail
decreases-loop-tail l = length l.rest
