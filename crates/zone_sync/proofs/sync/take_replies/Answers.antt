use Rattle.std.proofs.Common.{refl, ap, ◌∙◌, arith, Ok, Err}
use Rattle.std.proofs.lemmas.Result.{err_from_is_err_and}
use Rattle.xfr_client.proofs.Replying.{no_link_fault}
use Rattle.zone_sync.proofs.Replies.{starts, reply_takes, no_reply, no_more, all_came, ends_refused, ends_well, takes_on, err_same}
use Rattle.xfr_outcomes.specs.declared.outcome.SyncError.TheVariants as why
use Rattle.xfr_client.proofs.Growing.{grows_on, grows_still}
use Rattle.zone_sync.proofs.sync.take_replies.Goals as goal

pub returns-in_err-reply-clause-ends : goal.returns-in_err-reply-clause-ends
returns-in_err-reply-clause-ends g c a before st =
    let p = err_from_is_err_and c.from_residual.result c.from_residual.ensures.1 in
    let k = c.taking.invariant.3 a before st in
    rw (p.1, p.2) (no_reply a (g.L.Link.lists c.args.link.now) (g.L.Link.lists c.taking.link) (g.L.Link.lists c.take_reply.new.self) c.taking.client.client c.taking.client.session before c.taking.made.items c.taking.count c.in_err-reply.field-0.0 k c.taking-test.true c.in_err-reply.ensures.err)

pub returns-in_default-clause-ends : goal.returns-in_default-clause-ends
returns-in_default-clause-ends g c a before st =
    let k = c.taking.invariant.3 a before st in
    no_more a (g.L.Link.lists c.args.link.now) (g.L.Link.lists c.taking.link) (g.L.Link.lists c.take_reply.new.self) c.taking.client.client c.taking.client.session before c.taking.made.items c.taking.count k c.taking-test.true (rw c.in_default.is at c.in_ok-reply.ensures.ok)

pub returns-in_err-outcome-clause-ends : goal.returns-in_err-outcome-clause-ends
returns-in_err-outcome-clause-ends g c a before st =
    let p = err_from_is_err_and c.from_residual-in_err-outcome.result c.from_residual-in_err-outcome.ensures.1 in
    let k = c.taking.invariant.3 a before st in
    let r = reply_takes a c.taking.client.client c.take.new.self.client c.taking.client.session c.take.new.self.session k.taken before c.taking.made.items c.take.new.made.items c.in-Some.reply.items (Err c.in_err-outcome.field-0.0) c.in_err-outcome.ensures.takes k.stands in
    rw (p.1, p.2) (ends_refused a (g.L.Link.lists c.args.link.now) (g.L.Link.lists c.taking.link) (g.L.Link.lists c.take_reply.new.self) c.taking.client.client c.taking.client.session c.take.new.self.session before c.taking.made.items c.take.new.made.items c.taking.count c.in-Some.reply.items c.in_err-outcome.field-0.0
    k c.taking-test.true (rw c.in-Some.is at c.in_ok-reply.ensures.ok) r)

pub returns-in_err-outcome-clause-failed : goal.returns-in_err-outcome-clause-failed
returns-in_err-outcome-clause-failed g c a before st h =
    let p = err_from_is_err_and c.from_residual-in_err-outcome.result c.from_residual-in_err-outcome.ensures.1 in
    let k = c.taking.invariant.3 a before st in
    let r = reply_takes a c.taking.client.client c.take.new.self.client c.taking.client.session c.take.new.self.session k.taken before c.taking.made.items c.take.new.made.items c.in-Some.reply.items (Err c.in_err-outcome.field-0.0) c.in_err-outcome.ensures.takes k.stands in
    absurd (no_link_fault a c.take.new.self.session before c.take.new.made.items k.taken c.in-Some.reply.items c.in_err-outcome.field-0.0 k.stands.stands.unmet r (err_same c.in_err-outcome.field-0.0 why.LinkFault (rw (p.1, p.2) at h)))

pub returns-in-Some-2-clause-ends : goal.returns-in-Some-2-clause-ends
returns-in-Some-2-clause-ends g c a before st =
    let k = c.taking.invariant.3 a before st in
    let r = reply_takes a c.taking.client.client c.take.new.self.client c.taking.client.session c.take.new.self.session k.taken before c.taking.made.items c.take.new.made.items c.in-Some.reply.items (Ok c.in_ok-outcome.field-0) c.in_ok-outcome.ensures.takes k.stands in
    ends_well a (g.L.Link.lists c.args.link.now) (g.L.Link.lists c.taking.link) (g.L.Link.lists c.take_reply.new.self) c.taking.client.client c.take.new.self.client c.taking.client.session c.take.new.self.session before c.taking.made.items c.take.new.made.items c.taking.count c.in-Some.reply.items c.in-Some-2.outcome
    k c.taking-test.true (rw c.in-Some.is at c.in_ok-reply.ensures.ok) (rw c.in-Some-2.is at r)

pub taking-init : goal.taking-init
taking-init g c = (
  refl,
  omega arith,
  c.requires,
  λ a before st. starts a (g.L.Link.lists c.args.link.now) c.args.client.now.client c.args.client.now.session before c.args.made.now.items st,
  refl,
  grows_still c.args.client.now.session c.args.client.now.session c.args.made.now.items c.args.made.now.items refl refl,
)

pub taking-preserved : goal.taking-preserved
taking-preserved g c = (
  c.in_ok-reply.ensures.steady (λ h. absurd (cc h)) ∙ c.taking.invariant.0,
  omega (arith, c.taking-test.true),
  c.in_ok-outcome.ensures.open (ap Ok c.in_default-2.is),
  λ a before st.
      let k = c.taking.invariant.3 a before st in
      let r = reply_takes a c.taking.client.client c.take.new.self.client c.taking.client.session c.take.new.self.session k.taken before c.taking.made.items c.take.new.made.items c.in-Some.reply.items (Ok c.in_ok-outcome.field-0) c.in_ok-outcome.ensures.takes k.stands in
      takes_on a (g.L.Link.lists c.args.link.now) (g.L.Link.lists c.taking.link) (g.L.Link.lists c.take_reply.new.self) c.taking.client.client c.take.new.self.client c.taking.client.session c.take.new.self.session before c.taking.made.items c.take.new.made.items c.taking.count c.in-Some.reply.items
      k (rw c.in-Some.is at c.in_ok-reply.ensures.ok) (rw c.in_default-2.is at r),
  c.in_ok-outcome.ensures.lender ∙ c.taking.invariant.4,
  grows_on c.args.client.now.session.past c.taking.client.session.past c.take.new.self.session.past c.args.made.now.items c.taking.made.items c.take.new.made.items c.taking.invariant.5 c.in_ok-outcome.ensures.history,
)

pub returns-clause-ends : goal.returns-clause-ends
returns-clause-ends g c a before st =
    let k = c.taking.invariant.3 a before st in
    all_came a (g.L.Link.lists c.args.link.now) (g.L.Link.lists c.taking.link) c.taking.client.client c.taking.client.session before c.taking.made.items c.taking.count k (omega (arith, c.taking-test.false, c.taking.invariant.1))

pub returns-in_err-outcome-clause-history : goal.returns-in_err-outcome-clause-history
returns-in_err-outcome-clause-history g c = grows_on c.args.client.now.session.past c.taking.client.session.past c.take.new.self.session.past c.args.made.now.items c.taking.made.items c.take.new.made.items c.taking.invariant.5 c.in_err-outcome.ensures.history

pub returns-in-Some-2-clause-history : goal.returns-in-Some-2-clause-history
returns-in-Some-2-clause-history g c = grows_on c.args.client.now.session.past c.taking.client.session.past c.take.new.self.session.past c.args.made.now.items c.taking.made.items c.take.new.made.items c.taking.invariant.5 c.in_ok-outcome.ensures.history
