use Rattle.std.proofs.Common.{ap, ◌∙◌, Ok, Err}
use Rattle.std.proofs.lemmas.Result.{err_from_is_err_and}
use Rattle.zone_primary_run.specs.PrimaryStatuses.{of_serve}
use Rattle.zone_primary_run.specs.PrimaryRuns.{stream_of}
use Rattle.zone_primary_run.proofs.Runs.{is_read_as, not_made, not_served, served, sink_told}
use Rattle.zone_primary_run.proofs.running.serve_text.Goals as goal

pub returns-clause-runs : goal.returns-clause-runs
returns-clause-runs g c = λ script told fits.
    let s = stream_of (g.S.Source.remaining c.args.src.now) (g.S.Source.remaining c.serve_stream.new.src) (g.K.Sink.taken c.args.sink.now) (g.K.Sink.taken c.serve_stream.new.sink) in
    let done = c.in_ok-serve_stream.field-0 in
    is_read_as _ script c.args.text.items c.as_slice.result.now s (Ok done) told fits c.as_slice.ensures.value
    (served _ c.as_slice.result.now c.in_ok-primary.primary s done c.in_ok-primary.ensures c.in_ok-serve_stream.ensures.serves)

pub returns-in_err-serve_stream-clause-runs : goal.returns-in_err-serve_stream-clause-runs
returns-in_err-serve_stream-clause-runs g c = λ script told fits.
    let p = err_from_is_err_and c.from_residual-in_err-serve_stream.result c.from_residual-in_err-serve_stream.ensures.1 in
    let s = stream_of (g.S.Source.remaining c.args.src.now) (g.S.Source.remaining c.serve_stream.new.src) (g.K.Sink.taken c.args.sink.now) (g.K.Sink.taken c.serve_stream.new.sink) in
    let e = c.in_err-serve_stream.field-0.0 in
    rw (p.1, p.2) (is_read_as _ script c.args.text.items c.as_slice.result.now s (Err (of_serve e)) told fits c.as_slice.ensures.value
    (not_served _ c.as_slice.result.now c.in_ok-primary.primary s e c.in_ok-primary.ensures c.in_err-serve_stream.ensures.serves))

pub returns-in_err-serve_stream-clause-sink_failed : goal.returns-in_err-serve_stream-clause-sink_failed
returns-in_err-serve_stream-clause-sink_failed g c = λ h.
    let p = err_from_is_err_and c.from_residual-in_err-serve_stream.result c.from_residual-in_err-serve_stream.ensures.1 in
    c.in_err-serve_stream.ensures.sink_failed (ap Err (sink_told c.in_err-serve_stream.field-0.0 c.from_residual-in_err-serve_stream.result (p.1 ∙ ap Err p.2) h))

pub returns-in_err-primary-clause-runs : goal.returns-in_err-primary-clause-runs
returns-in_err-primary-clause-runs g c = λ script told fits.
    let p = err_from_is_err_and c.from_residual.result c.from_residual.ensures.1 in
    let left = g.S.Source.remaining c.args.src.now in
    let taken = g.K.Sink.taken c.args.sink.now in
    let e = c.in_err-primary.field-0.0 in
    rw (p.1, p.2) (is_read_as _ script c.args.text.items c.as_slice.result.now (stream_of left left taken taken) (Err e) told fits c.as_slice.ensures.value
    (not_made _ c.as_slice.result.now left taken e c.in_err-primary.ensures))
