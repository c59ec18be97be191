use Rattle.std.proofs.Common.{◌≡◌, ◌++◌, length}
use Rattle.name_keys.specs.NameKeys.{name_key}
use Rattle.name_keys.proofs.key_octets.KeyOctets.fill.Given as goal

-- the key of the labels that are left and what was put are the name's key
abbrev pub invariant-loop-label : goal.invariant-loop-label
invariant-loop-label g l = name_key l.rest ++ l.self ≡ name_key l.name

abbrev pub decreases-loop-label : goal.decreases-loop-label
decreases-loop-label g l = length l.rest
