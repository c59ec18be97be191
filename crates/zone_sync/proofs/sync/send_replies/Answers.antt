use Rattle.std.proofs.Common.{refl, sym, ◌∙◌}
use Rattle.std.proofs.lemmas.Result.{err_from_is_err_and}
use Rattle.zone_sync.proofs.Serving.{begins, passes, sends_on, all_sent, not_made, not_carried}
use Rattle.zone_sync.proofs.sync.send_replies.Goals as goal

pub replies-init : goal.replies-init
replies-init g c = (refl, λ items l. begins items (g.S.ReplyStream.LeftOf c.args.replies) (g.L.Link.lists c.args.link.now) l)

pub returns-in_err-item-clause-served : goal.returns-in_err-item-clause-served
returns-in_err-item-clause-served g c items l =
    let p = err_from_is_err_and c.from_residual.result c.from_residual.ensures.1 in
    let k = c.replies.invariant.1 items l in
    rw (p.1, p.2) (not_made items (g.S.ReplyStream.LeftOf c.replies.replies) (g.S.ReplyStream.LeftOf c.next_item.new.self) (g.L.Link.lists c.args.link.now) (g.L.Link.lists c.replies.link) c.in_err-item.field-0.0 k (rw c.in_err-item.was at (c.in-Some.ensures.item k.rest k.left)))

pub returns-in_err-send_reply-clause-served : goal.returns-in_err-send_reply-clause-served
returns-in_err-send_reply-clause-served g c items l =
    let p = err_from_is_err_and c.from_residual-in_err-send_reply.result c.from_residual-in_err-send_reply.ensures.1 in
    let k = c.replies.invariant.1 items l in
    rw (p.1, p.2) (not_carried items (g.S.ReplyStream.LeftOf c.replies.replies) (g.L.Link.lists c.args.link.now) (g.L.Link.lists c.replies.link) (g.L.Link.lists c.send_reply.new.self) c.in_err-send_reply.field-0.0 k c.in_err-send_reply.ensures.err)

pub replies-preserved-in-Some-into_response : goal.replies-preserved-in-Some-into_response
replies-preserved-in-Some-into_response g c = (
  c.in_ok-send_reply.ensures.steady (λ h. absurd (cc h)) ∙ c.replies.invariant.0,
  λ items l.
      let k = c.replies.invariant.1 items l in
      sends_on items (g.S.ReplyStream.LeftOf c.replies.replies) (g.S.ReplyStream.LeftOf c.next_item.new.self) (g.L.Link.lists c.args.link.now) (g.L.Link.lists c.replies.link) (g.L.Link.lists c.send_reply.new.self)
      c.in_ok-item.field-0 c.in-Some-into_response.reply c.as_slice-in-Some-into_response.result.now (sym c.into_response.ensures ∙ c.in-Some-into_response.is) (c.as_slice-in-Some-into_response.ensures.value ∙ c.finish.ensures.value)
      k (rw c.in_ok-item.was at (c.in-Some.ensures.item k.rest k.left)) c.in_ok-send_reply.ensures.ok,
)

pub replies-preserved : goal.replies-preserved
replies-preserved g c = (
  c.replies.invariant.0,
  λ items l.
      let k = c.replies.invariant.1 items l in
      passes items (g.S.ReplyStream.LeftOf c.replies.replies) (g.S.ReplyStream.LeftOf c.next_item.new.self) (g.L.Link.lists c.args.link.now) (g.L.Link.lists c.replies.link) c.in_ok-item.field-0
      (sym c.into_response.ensures ∙ c.in_default-into_response.is) k (rw c.in_ok-item.was at (c.in-Some.ensures.item k.rest k.left)),
)

pub returns-clause-served : goal.returns-clause-served
returns-clause-served g c items l =
    let k = c.replies.invariant.1 items l in
    all_sent items (g.S.ReplyStream.LeftOf c.replies.replies) (g.S.ReplyStream.LeftOf c.next_item.new.self) (g.L.Link.lists c.args.link.now) (g.L.Link.lists c.replies.link) k (c.in_default.ensures.item k.rest k.left)
