use Rattle.std.proofs.Common.{length}
use Rattle.zone_tree.proofs.tree.ZoneTree.close.Given as goal

-- a zone fewer each time
abbrev pub decreases-loop-key : goal.decreases-loop-key
decreases-loop-key g l = length l.entries.entries
