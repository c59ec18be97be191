use Rattle.std.proofs.Common.{refl, sym, ap, ◌∙◌, arith, Some, None, Ok, Err}
use Rattle.std.proofs.lemmas.Result.{err_from_is_err_and}
use Rattle.zone_asking.specs.Answers.{code_in}
use Rattle.zone_asking.proofs.Replies.{starts, reply_takes, no_reply, no_more, all_came, ends_told, ends_well, takes_on}
use Rattle.zone_asking.proofs.Rooms.{room_takes, stops_takes}
use Rattle.xfr_client.proofs.Growing.{grows_on, grows_still}
use Rattle.zone_asking.proofs.asking.take_replies.Goals as goal

pub returns-in_err-reply-clause-ends : goal.returns-in_err-reply-clause-ends
returns-in_err-reply-clause-ends g c a before st =
    let p = err_from_is_err_and c.from_residual.result c.from_residual.ensures.1 in
    let k = c.taking.invariant.taken a before st in
    let e = c.in_err-reply.ensures.error in
    let old = g.S.Source.remaining c.args.src.now in
    rw (p.1, p.2) (no_reply c.args.limits.now c.args.over a old (g.S.Source.remaining c.taking.src) (g.S.Source.remaining c.next_reply.new.src) c.taking.left c.taking.client.client c.taking.client.session before c.taking.made.items c.taking.count c.in_err-reply.field-0.0
    k c.taking-test.true e.0 (e.1 c.args.limits.now k.taken old k.reads))

pub returns-in_default-clause-ends : goal.returns-in_default-clause-ends
returns-in_default-clause-ends g c a before st =
    let k = c.taking.invariant.taken a before st in
    let old = g.S.Source.remaining c.args.src.now in
    no_more c.args.limits.now c.args.over a old (g.S.Source.remaining c.taking.src) (g.S.Source.remaining c.next_reply.new.src) c.taking.left c.taking.client.client c.taking.client.session before c.taking.made.items c.taking.count k c.taking-test.true
    (c.in_ok-reply.ensures.none (ap Ok c.in_default.is) c.args.limits.now k.taken old k.reads)

pub returns-in-Ok-Some-clause-ends : goal.returns-in-Ok-Some-clause-ends
returns-in-Ok-Some-clause-ends g c a before st =
    let k = c.taking.invariant.taken a before st in
    let r = reply_takes a c.taking.client.client c.take.new.self.client c.taking.client.session c.take.new.self.session k.taken before c.taking.made.items c.take.new.made.items c.in-Some.reply.items (Ok c.in-Ok-Some.field-0) c.in-Ok-Some.ensures.takes k.stands in
    let old = g.S.Source.remaining c.args.src.now in
    let reads = (rw c.in-Some.is at c.in_ok-reply.ensures.reply) c.args.limits.now k.taken old k.reads in
    let room = room_takes c.args.limits.now.set_records a c.taking.client.client c.taking.client.session c.take.new.self.session k.taken before c.taking.made.items c.take.new.made.items c.in-Some.reply.items (Ok c.in-Ok-Some.field-0) c.taking.invariant.most c.in-Ok-Some.ensures.room k.stands in
    rw c.in-Ok-Some.outcome-is (ends_well c.args.limits.now c.args.over a old (g.S.Source.remaining c.taking.src) (g.S.Source.remaining c.next_reply.new.src) c.taking.left c.next_reply.new.left c.taking.client.client c.take.new.self.client c.taking.client.session c.take.new.self.session before c.taking.made.items c.take.new.made.items c.taking.count c.in-Some.reply.items c.in-Ok-Some.outcome
    k c.taking-test.true reads (rw c.in-Ok-Some.field-0-is at r) room)

pub returns-in-Err-clause-ends : goal.returns-in-Err-clause-ends
returns-in-Err-clause-ends g c a before st =
    let k = c.taking.invariant.taken a before st in
    let r = reply_takes a c.taking.client.client c.take.new.self.client c.taking.client.session c.take.new.self.session k.taken before c.taking.made.items c.take.new.made.items c.in-Some.reply.items (Err c.in-Err.error) c.in-Err.ensures.takes k.stands in
    let code = c.rcode_of-code.ensures ∙ ap code_in c.as_slice.ensures.value in
    let old = g.S.Source.remaining c.args.src.now in
    let reads = (rw c.in-Some.is at c.in_ok-reply.ensures.reply) c.args.limits.now k.taken old k.reads in
    let kept = room_takes c.args.limits.now.set_records a c.taking.client.client c.taking.client.session c.take.new.self.session k.taken before c.taking.made.items c.take.new.made.items c.in-Some.reply.items (Err c.in-Err.error) c.taking.invariant.most c.in-Err.ensures.room k.stands in
    let stops = stops_takes c.args.limits.now.set_records a c.taking.client.client c.take.new.self.client c.taking.client.session c.take.new.self.session k.taken before c.taking.made.items c.take.new.made.items c.in-Some.reply.items (Err c.in-Err.error) c.taking.invariant.most c.in-Err.ensures.stops k.stands in
    rw c.refused.ensures (ends_told c.take.new.self.client.full c.args.limits.now c.args.over a old (g.S.Source.remaining c.taking.src) (g.S.Source.remaining c.next_reply.new.src) c.taking.left c.next_reply.new.left c.taking.client.client c.taking.client.session c.take.new.self.session before c.taking.made.items c.take.new.made.items c.taking.count c.in-Some.reply.items c.in-Err.error c.rcode_of-code.result
    k c.taking-test.true reads code r kept c.in-Err.ensures.full (λ f. stops (c.in-Err.ensures.full f) f))

pub taking-init : goal.taking-init
taking-init g c = record {
  faults = refl;
  few = omega arith;
  under_way = c.requires.under_way;
  most = c.requires.most;
  lender = refl;
  grown = grows_still c.args.client.now.session c.args.client.now.session c.args.made.now.items c.args.made.now.items refl refl;
  taken = λ a before st. starts c.args.limits.now c.args.over a (g.S.Source.remaining c.args.src.now) c.args.client.now.client c.args.client.now.session before c.args.made.now.items st;
}

pub taking-preserved : goal.taking-preserved
taking-preserved g c = record {
  faults = c.in_ok-reply.ensures.steady (λ h. absurd (cc h)) ∙ c.taking.invariant.faults;
  few = omega (arith, c.taking-test.true);
  most = c.in-Ok-None.ensures.limit ∙ c.taking.invariant.most;
  lender = c.in-Ok-None.ensures.lender ∙ c.taking.invariant.lender;
  grown = grows_on c.args.client.now.session.past c.taking.client.session.past c.take.new.self.session.past c.args.made.now.items c.taking.made.items c.take.new.made.items c.taking.invariant.grown c.in-Ok-None.ensures.history;
  under_way = c.in-Ok-None.ensures.open (ap Ok c.in-Ok-None.field-0-is);
  taken = λ a before st.
      let k = c.taking.invariant.taken a before st in
      let r = reply_takes a c.taking.client.client c.take.new.self.client c.taking.client.session c.take.new.self.session k.taken before c.taking.made.items c.take.new.made.items c.in-Some.reply.items (Ok c.in-Ok-None.field-0) c.in-Ok-None.ensures.takes k.stands in
      let old = g.S.Source.remaining c.args.src.now in
      let reads = (rw c.in-Some.is at c.in_ok-reply.ensures.reply) c.args.limits.now k.taken old k.reads in
      let room = room_takes c.args.limits.now.set_records a c.taking.client.client c.taking.client.session c.take.new.self.session k.taken before c.taking.made.items c.take.new.made.items c.in-Some.reply.items (Ok c.in-Ok-None.field-0) c.taking.invariant.most c.in-Ok-None.ensures.room k.stands in
      takes_on c.args.limits.now c.args.over a old (g.S.Source.remaining c.taking.src) (g.S.Source.remaining c.next_reply.new.src) c.taking.left c.next_reply.new.left c.taking.client.client c.take.new.self.client c.taking.client.session c.take.new.self.session before c.taking.made.items c.take.new.made.items c.taking.count c.in-Some.reply.items
      k reads (rw c.in-Ok-None.field-0-is at r) room;
}

pub returns-clause-ends : goal.returns-clause-ends
returns-clause-ends g c a before st =
    let k = c.taking.invariant.taken a before st in
    all_came c.args.limits.now c.args.over a (g.S.Source.remaining c.args.src.now) (g.S.Source.remaining c.taking.src) c.taking.left c.taking.client.client c.taking.client.session before c.taking.made.items c.taking.count k (omega (arith, c.taking-test.false, c.taking.invariant.few))

pub returns-in-Ok-Some-clause-history : goal.returns-in-Ok-Some-clause-history
returns-in-Ok-Some-clause-history g c = grows_on c.args.client.now.session.past c.taking.client.session.past c.take.new.self.session.past c.args.made.now.items c.taking.made.items c.take.new.made.items c.taking.invariant.grown c.in-Ok-Some.ensures.history

pub returns-in-Err-clause-history : goal.returns-in-Err-clause-history
returns-in-Err-clause-history g c = grows_on c.args.client.now.session.past c.taking.client.session.past c.take.new.self.session.past c.args.made.now.items c.taking.made.items c.take.new.made.items c.taking.invariant.grown c.in-Err.ensures.history
