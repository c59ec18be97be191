use Rattle.std.proofs.Common.{◌≡◌, ◌++◌, length}
use Rattle.dns_name.specs.Names.{name_wire}
use Rattle.name_keys.proofs.key.KeyedName.to_name.Given as goal

-- what was written and the wire form of the name that is left are the name's
abbrev pub invariant-loop-parent : goal.invariant-loop-parent
invariant-loop-parent g l = l.wire ++ name_wire l.rest ≡ name_wire l.self

abbrev pub decreases-loop-parent : goal.decreases-loop-parent
decreases-loop-parent g l = length l.rest
