use Rattle.std.proofs.Common.{ap, Ok, Err}
use Rattle.zone_serving.proofs.Stepping.{is_over, not_read}
use Rattle.std.proofs.lemmas.Result.{err_from_is_err_and}
use Rattle.zone_serving.specs.StreamServing.{request_at}
use Rattle.zone_serving.proofs.serving.serve_next.Goals as goal

pub returns-in_default-clause-steps : goal.returns-in_default-clause-steps
returns-in_default-clause-steps g c =
    is_over (g.S.Source.remaining c.args.src.now) (g.S.Source.remaining c.read_frame.new.src) (g.K.Sink.taken c.args.sink.now)
    (c.in_ok-message.ensures.none (ap Ok c.in_default.is)) c.in_ok-message.ensures.most

pub returns-in_err-message-clause-steps : goal.returns-in_err-message-clause-steps
returns-in_err-message-clause-steps g c =
    let p = err_from_is_err_and c.from_residual.result c.from_residual.ensures.1 in
    rw (p.1, p.2) (not_read (λ m. g.P.Service.Sends c.args.primary.now (request_at m c.args.at)) (g.S.Source.remaining c.args.src.now) (g.S.Source.remaining c.read_frame.new.src) (g.K.Sink.taken c.args.sink.now) c.in_err-message.field-0.0
    (λ h. c.in_err-message.ensures.cut (ap Err h)) (λ h. c.in_err-message.ensures.ended (ap Err h)) c.in_err-message.ensures.most c.in_err-message.ensures.within)
