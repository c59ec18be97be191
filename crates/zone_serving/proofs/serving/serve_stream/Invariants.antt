use Rattle.std.proofs.Common.{◌≡◌, ◌≤◌, ◌-◌}
use Rattle.zone_serving.specs.StreamServing.{request_at, ServedCount}
use Rattle.zone_serving.proofs.serving.serve_stream.Given as goal

abbrev pub invariant-serving : goal.invariant-serving
invariant-serving g l = record {
  source_steady : g.S.Source.faults l.src ≡ g.S.Source.faults l.initial.src;
  sink_steady : g.K.Sink.faults l.sink ≡ g.K.Sink.faults l.initial.sink;
  most : l.requests ≤ 18446744073709551615;
  so_far : ServedCount (λ m. g.P.Service.Sends l.fn.primary (request_at m l.fn.at)) l.requests (g.S.Source.remaining l.initial.src) (g.S.Source.remaining l.src) (g.K.Sink.taken l.initial.sink) (g.K.Sink.taken l.sink);
}

abbrev pub decreases-serving : goal.decreases-serving
decreases-serving g l = 18446744073709551615 - l.requests
