use Rattle.std.proofs.Common.{◌+◌, ◌-◌, arith}
use Rattle.zone_generated.proofs.Moves.{drawn_once}
use Rattle.zone_generated.proofs.draws.draws.Goals as goal

pub loop-number-preserved : goal.loop-number-preserved
loop-number-preserved c =
    drawn_once c.loop-number.drawn.items c.push_next.new.drawn.items _ (c.args.count - c.loop-number.number) (c.args.count - (c.loop-number.number + 1)) c.loop-number.draw c.in_ok-draw.draw
    (omega (arith, c.loop-number-test.true)) c.in_ok-draw.ensures.next c.in_ok-draw.ensures.kept c.loop-number.invariant
