use Rattle.std.proofs.Common.{◌≡◌, ◌<◌, ◌≤◌, ◌^◌}
use Rattle.zone_generated.specs.Ranks.{moved_up, rank}
use Rattle.zone_generated.proofs.draws.rank.Given as goal

-- The rest of the moves makes the rank of it, and no move makes it too large.
abbrev pub invariant-loop-more : goal.invariant-loop-more
invariant-loop-more l = (moved_up l.more l.scaled ≡ rank l.number) × (l.scaled < 10 ^ 10) × (l.more ≤ 9)

abbrev pub decreases-loop-more : goal.decreases-loop-more
decreases-loop-more l = l.more
