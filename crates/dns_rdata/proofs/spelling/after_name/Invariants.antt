use Rattle.std.proofs.Common.{length}
use Rattle.dns_rdata.proofs.FrontNames.{Leaves}
use Rattle.dns_rdata.proofs.spelling.after_name.Given as goal

-- The labels passed stand at the octets' beginning.
abbrev pub invariant-loop-label : goal.invariant-loop-label
invariant-loop-label g l = Leaves l.octets (g.N.Labelled.labels l.name) l.rest l.labels

abbrev pub decreases-loop-label : goal.decreases-loop-label
decreases-loop-label g l = length l.labels
