use Rattle.std.proofs.Common.{ap, ◌∙◌}
use Rattle.zone_model.specs.Classify.{opened_with}
use Rattle.zone_generated.proofs.Opened.{host_put, all_put}
use Rattle.zone_generated.proofs.zone.put_hosts.Goals as goal

pub put-requires-clause-apex : goal.put-requires-clause-apex
put-requires-clause-apex c = c.loop-draw.invariant.1

pub loop-draw-preserved : goal.loop-draw-preserved
loop-draw-preserved c = (
  host_put c.args.count c.loop-draw.draw-index c.args.drawn.now c.loop-draw.builder c.put.new.builder _ c.loop-draw-test.true
      (c.in_ok-put.ensures.put ∙ ap (opened_with c.loop-draw.builder) c.in_ok-host_record.ensures) c.loop-draw.invariant.0,
  c.in_ok-put.ensures.apex,
)

pub returns : goal.returns
returns c = all_put c.args.count c.loop-draw.draw-index c.args.drawn.now c.loop-draw.builder _ c.loop-draw-test.false c.loop-draw.invariant.0
