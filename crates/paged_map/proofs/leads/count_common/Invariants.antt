use Rattle.std.proofs.Common.{length}
use Rattle.paged_map.proofs.leads.count_common.Given as goal

abbrev pub decreases-loop-left : goal.decreases-loop-left
decreases-loop-left l = length l.ones
