use Rattle.std.proofs.Common.{◌≡◌, ◌≤◌, ◌<◌, ◌+◌, ℕ, length, get_or}
use Rattle.name_keys.proofs.key.last_label_start.Given as goal

-- from here on no octet but the last is a 0
abbrev pub invariant-loop-start : goal.invariant-loop-start
invariant-loop-start l =
    (l.start < length l.octets) × ((k : ℕ) → l.start ≤ k → k + 1 < length l.octets → get_or l.octets k 0 ≡ 0 → ⊥)

abbrev pub decreases-loop-start : goal.decreases-loop-start
decreases-loop-start l = l.start
