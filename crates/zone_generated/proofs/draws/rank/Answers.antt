use Rattle.std.proofs.Common.{◌-◌, arith, le-ltb}
use Rattle.zone_generated.proofs.Moves.{moved_once, none_left, moved_enough}
use Rattle.zone_generated.proofs.draws.rank.Goals as goal
use Rattle.zone_generated.proofs.draws.rank.Goals.{then-loop-more-test+else-scaled-lt1000000000, else-loop-more-test}

pub loop-more-preserved : goal.loop-more-preserved
loop-more-preserved c = (
  moved_once c.loop-more.more (c.loop-more.more - 1) c.loop-more.scaled _ (omega (arith, c.loop-more-test.true)) c.if-scaled-lt1000000000.true c.loop-more.invariant.0,
  omega (arith, c.if-scaled-lt1000000000.true),
  omega (arith, c.loop-more.invariant.2),
)

pub returns : goal.returns
returns c = elim c.loop-more-test.branch [
  | then-loop-more-test+else-scaled-lt1000000000 w ↦ moved_enough c.loop-more.more c.loop-more.scaled _ (le-ltb c.loop-more.scaled 1000000000 w.if-scaled-lt1000000000.false) c.loop-more.invariant.0
  | else-loop-more-test w ↦ none_left c.loop-more.more c.loop-more.scaled _ (omega (arith, w.loop-more-test)) c.loop-more.invariant.0
]
