use Rattle.std.proofs.Common.{refl, sym, ap, ◌∙◌, Err}
use Rattle.std.proofs.lemmas.Result.{err_from_is_err_and}
use Rattle.zone_serving.proofs.Replying.{begins, passes, writes_on, all_written, not_made, not_taken}
use Rattle.zone_serving.proofs.serving.write_replies.Goals as goal

pub replies-init : goal.replies-init
replies-init g c = (refl, λ items l. begins items (g.S.ReplyStream.LeftOf c.args.replies) (g.K.Sink.taken c.args.sink.now) l)

pub returns-in_err-item-clause-written : goal.returns-in_err-item-clause-written
returns-in_err-item-clause-written g c items l =
    let p = err_from_is_err_and c.from_residual.result c.from_residual.ensures.1 in
    let k = c.replies.invariant.1 items l in
    rw (p.1, p.2) (not_made items (g.S.ReplyStream.LeftOf c.replies.replies) (g.S.ReplyStream.LeftOf c.next_item.new.self) (g.K.Sink.taken c.args.sink.now) (g.K.Sink.taken c.replies.sink) c.in_err-item.field-0.0 k (rw c.in_err-item.was at (c.in-Some.ensures.item k.rest k.left)))

pub returns-in_err-write_frame-clause-written : goal.returns-in_err-write_frame-clause-written
returns-in_err-write_frame-clause-written g c items l =
    let p = err_from_is_err_and c.from_residual-in_err-write_frame.result c.from_residual-in_err-write_frame.ensures.1 in
    let k = c.replies.invariant.1 items l in
    rw (p.1, p.2) (not_taken items (g.S.ReplyStream.LeftOf c.replies.replies) (g.S.ReplyStream.LeftOf c.next_item.new.self) (g.K.Sink.taken c.args.sink.now) (g.K.Sink.taken c.replies.sink) (g.K.Sink.taken c.write_frame.new.out)
    c.in_ok-item.field-0 c.in-Some-into_response.reply c.as_slice-in-Some-into_response.result.now c.in_err-write_frame.field-0.0 (sym c.into_response.ensures ∙ c.in-Some-into_response.is) (c.as_slice-in-Some-into_response.ensures.value ∙ c.finish.ensures.value)
    (rw c.as_slice-in-Some-into_response.ensures.value c.finish.ensures.most) (λ h. c.write_frame.ensures.long.1 (c.in_err-write_frame.was ∙ ap Err h))
    k (rw c.in_ok-item.was at (c.in-Some.ensures.item k.rest k.left)) c.in_err-write_frame.ensures.part)

pub replies-preserved-in-Some-into_response : goal.replies-preserved-in-Some-into_response
replies-preserved-in-Some-into_response g c = (
  c.in_ok-write_frame.ensures.steady (λ h. absurd (cc h)) ∙ c.replies.invariant.0,
  λ items l.
      let k = c.replies.invariant.1 items l in
      writes_on items (g.S.ReplyStream.LeftOf c.replies.replies) (g.S.ReplyStream.LeftOf c.next_item.new.self) (g.K.Sink.taken c.args.sink.now) (g.K.Sink.taken c.replies.sink) (g.K.Sink.taken c.write_frame.new.out)
      c.in_ok-item.field-0 c.in-Some-into_response.reply c.as_slice-in-Some-into_response.result.now (sym c.into_response.ensures ∙ c.in-Some-into_response.is) (c.as_slice-in-Some-into_response.ensures.value ∙ c.finish.ensures.value)
      k (rw c.in_ok-item.was at (c.in-Some.ensures.item k.rest k.left)) c.in_ok-write_frame.ensures.ok,
)

pub replies-preserved : goal.replies-preserved
replies-preserved g c = (
  c.replies.invariant.0,
  λ items l.
      let k = c.replies.invariant.1 items l in
      passes items (g.S.ReplyStream.LeftOf c.replies.replies) (g.S.ReplyStream.LeftOf c.next_item.new.self) (g.K.Sink.taken c.args.sink.now) (g.K.Sink.taken c.replies.sink) c.in_ok-item.field-0
      (sym c.into_response.ensures ∙ c.in_default-into_response.is) k (rw c.in_ok-item.was at (c.in-Some.ensures.item k.rest k.left)),
)

pub returns-clause-written : goal.returns-clause-written
returns-clause-written g c items l =
    let k = c.replies.invariant.1 items l in
    all_written items (g.S.ReplyStream.LeftOf c.replies.replies) (g.S.ReplyStream.LeftOf c.next_item.new.self) (g.K.Sink.taken c.args.sink.now) (g.K.Sink.taken c.replies.sink) k (c.in_default.ensures.item k.rest k.left)
