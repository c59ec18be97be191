use Rattle.std.proofs.Common.{rules, ◌∙◌}
use Rattle.zone_devices.proofs.StreamSteps.{written_more}
use Rattle.zone_devices.proofs.sinks.write_all.Goals as goal

pub loop-written-preserved : goal.loop-written-preserved
loop-written-preserved g c =
    record {
      within = search rules;
      taken = written_more _ c.args.octets.now c.loop-written.written c.in_ok-count.count _ _ c.loop-written.invariant.taken c.in_ok-count.ensures.octets;
      steady = c.in_ok-count.ensures.steady ∙ c.loop-written.invariant.steady;
    }
