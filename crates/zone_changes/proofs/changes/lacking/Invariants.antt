use Rattle.std.proofs.Common.{◌≡◌, []}
use Rattle.zone_changes.specs.Changes.{lacked_at}
use Rattle.zone_changes.proofs.changes.lacking.Given as goal

-- With what is lacked at the keys left, it is what is lacked at all.
abbrev pub invariant-loop-key : goal.invariant-loop-key
invariant-loop-key l = lacked_at l.version.sets l.other.sets l.sets l.key-iterator ≡ lacked_at l.version.sets l.other.sets [] l.touched
