use Rattle.std.proofs.Common.{◌≡◌, ◌≤◌, ◌+◌, ◌-◌, ◌++◌, length, take, drop}
use Rattle.name_keys.specs.NameKeys.{label_of}
use Rattle.name_keys.proofs.key.append_by_octets.Given as goal

-- what was read and what the rest of the piece spells are what the piece spells
abbrev pub invariant-loop-at : goal.invariant-loop-at
invariant-loop-at l =
    (length l.label ≡ 63) × (l.at ≤ length l.piece) × (l.len + length (label_of (drop l.at l.piece)) ≡ length (label_of l.piece))
    × (take l.len l.label ++ label_of (drop l.at l.piece) ≡ label_of l.piece)

abbrev pub decreases-loop-at : goal.decreases-loop-at
decreases-loop-at l = length l.piece - l.at
