use Rattle.std.proofs.Common.{sym, ◌∙◌, subst}
use Rattle.std.proofs.lemmas.Result.{err_from_is_err_and}
use Rattle.xfr_outcomes.specs.declared.outcome.SyncError.TheVariants as why
use Rattle.xfr_services.specs.LongReplies.{HasLongQuestions}
use Rattle.zone_sync.specs.Serving.{request_at}
use Rattle.zone_sync.proofs.LongQuestions.{the_error, long_at_once, long_in_stream}
use Rattle.zone_sync.proofs.Serving.{not_asked, serves, is_request}
use Rattle.zone_sync.proofs.sync.serve.Goals as goal

pub returns-in_err-replies-clause-served : goal.returns-in_err-replies-clause-served
returns-in_err-replies-clause-served g c =
    let p = err_from_is_err_and c.from_residual.result c.from_residual.ensures.1 in
    let sends = g.P.Service.Sends c.args.primary.now in
    let is = is_request c.new-request.result c.args.message c.args.at c.new-request.ensures.message c.new-request.ensures.transport c.new-request.ensures.now c.new-request.ensures.reserved in
    rw (p.1, p.2) (not_asked sends (g.P.Stream.ReplyStream.LeftOf) (g.L.Link.lists c.args.link.now) c.in_err-replies.field-0.0 c.new-request.result c.args.message c.args.at is c.in_err-replies.ensures.calls)

pub returns-clause-served : goal.returns-clause-served
returns-clause-served g c =
    let sends = g.P.Service.Sends c.args.primary.now in
    let is = is_request c.new-request.result c.args.message c.args.at c.new-request.ensures.message c.new-request.ensures.transport c.new-request.ensures.now c.new-request.ensures.reserved in
    serves (sends (request_at c.args.message c.args.at)) (g.P.Stream.ReplyStream.LeftOf) c.in_ok-replies.replies (g.L.Link.lists c.args.link.now) (g.L.Link.lists c.send_replies.new.link) c.send_replies.result
    (rw is at c.in_ok-replies.ensures.calls) c.send_replies.ensures.served

pub returns-in_err-replies-clause-long : goal.returns-in_err-replies-clause-long
returns-in_err-replies-clause-long g c e h =
    let p = err_from_is_err_and c.from_residual.result c.from_residual.ensures.1 in
    let is = sym p.2 ∙ the_error c.from_residual.result p.0 (why.Primary e) p.1 h in
    subst HasLongQuestions c.new-request.ensures.message (long_at_once (g.P.Stream.ReplyStream.LeftOf) c.new-request.result.message c.in_err-replies.field-0.0 e c.in_err-replies.ensures.failing is)

pub returns-clause-long : goal.returns-clause-long
returns-clause-long g c e h =
    subst HasLongQuestions c.new-request.ensures.message
    (long_in_stream (g.P.Stream.ReplyStream.LeftOf) c.in_ok-replies.replies c.new-request.result.message (g.L.Link.lists c.args.link.now) (g.L.Link.lists c.send_replies.new.link) c.send_replies.result e c.in_ok-replies.ensures.failing c.send_replies.ensures.served h)
