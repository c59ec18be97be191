use Rattle.std.proofs.Common.{arith}
use Rattle.paged_map.proofs.leads.count_common.Goals as goal

pub loop-left-smaller : goal.loop-left-smaller
loop-left-smaller c = omega (arith, c.in-Some.ensures.cases.2)
