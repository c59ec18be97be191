use Rattle.std.proofs.Common.{◌≤◌}
use Rattle.zone_sync.proofs.reading.read_often.Given as goal

-- What was read first is no newer than what is held.
abbrev pub invariant-loop : goal.invariant-loop
invariant-loop g l = l.first ≤ l.reader.last.number
