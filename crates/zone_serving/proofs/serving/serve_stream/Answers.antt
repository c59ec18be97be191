use Rattle.std.proofs.Common.{arith, refl, ◌∙◌}
use Rattle.zone_serving.specs.StreamServing.{request_at}
use Rattle.zone_serving.proofs.Stepping.{begins, serves_on}
use Rattle.zone_serving.proofs.serving.serve_stream.Goals as goal

pub serving-init : goal.serving-init
serving-init g c = record {
  source_steady = refl;
  sink_steady = refl;
  most = omega arith;
  so_far = begins (λ m. g.P.Service.Sends c.args.primary.now (request_at m c.args.at)) (g.S.Source.remaining c.args.src.now) (g.K.Sink.taken c.args.sink.now);
}

pub serving-preserved : goal.serving-preserved
serving-preserved g c = record {
  source_steady = c.in_ok-served.ensures.source_steady (λ h. absurd (cc h)) ∙ c.serving.invariant.source_steady;
  sink_steady = c.in_ok-served.ensures.sink_steady (λ h. absurd (cc h)) ∙ c.serving.invariant.sink_steady;
  most = omega (arith, c.serving-test.true);
  so_far = serves_on c.octets_are_cut_frame_by_frame.ensures.some (λ m. g.P.Service.Sends c.args.primary.now (request_at m c.args.at)) c.serving.requests
      (g.S.Source.remaining c.args.src.now) (g.S.Source.remaining c.serving.src) (g.S.Source.remaining c.serve_next.new.src)
      (g.K.Sink.taken c.args.sink.now) (g.K.Sink.taken c.serving.sink) (g.K.Sink.taken c.serve_next.new.sink)
      c.serving.invariant.so_far (rw c.if-not-served.false at c.in_ok-served.ensures.steps);
}
