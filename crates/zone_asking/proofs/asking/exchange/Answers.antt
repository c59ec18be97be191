use Rattle.std.proofs.Common.{refl, ap, sym, ◌∙◌, ◌≤◌, length, subst}
use Rattle.std.proofs.lemmas.Result.{err_from_is_err_and}
use Rattle.xfr_client.specs.Standing.{asking_of}
use Rattle.zone_asking.proofs.Requests.{not_made, not_sent, replied, under_way}
use Rattle.xfr_client.proofs.Growing.{grows_on, grows_still}
use Rattle.zone_asking.proofs.asking.exchange.Goals as goal

pub returns-in_err-request-clause-exchanges : goal.returns-in_err-request-clause-exchanges
returns-in_err-request-clause-exchanges g c =
    let a = asking_of c.args.client.now.client c.args.client.now.session.current in
    let p = err_from_is_err_and c.from_residual.result c.from_residual.ensures.1 in
    let current = ap (λ x. x.current) c.request.ensures.session in
    rw (p.1, p.2) (not_made c.args.limits.now c.args.over a (g.S.Source.remaining c.args.src.now) (g.K.Sink.taken c.args.sink.now) c.args.made.now.items c.request.new.self.session c.in_err-request.field-0.0 c.in_err-request.ensures.refused current)

pub send_request-requires : goal.send_request-requires
send_request-requires g c =
    let is = c.as_slice.ensures.value ∙ c.in_ok-request.ensures.ok.0 in
    subst (λ l. length l ≤ 65535) (sym is) c.in_ok-request.ensures.ok.1.fits

pub returns-in_err-send_request-clause-exchanges : goal.returns-in_err-send_request-clause-exchanges
returns-in_err-send_request-clause-exchanges g c =
    let a = asking_of c.args.client.now.client c.args.client.now.session.current in
    let p = err_from_is_err_and c.from_residual-in_err-send_request.result c.from_residual-in_err-send_request.ensures.1 in
    let current = ap (λ x. x.current) c.request.ensures.session in
    let is = c.as_slice.ensures.value ∙ c.in_ok-request.ensures.ok.0 in
    let part = c.send_request.ensures.part in
    rw (p.1, p.2) (not_sent c.args.limits.now c.args.over a (g.S.Source.remaining c.args.src.now) (g.K.Sink.taken c.args.sink.now) (g.K.Sink.taken c.send_request.new.sink) c.args.made.now.items c.request.new.self.session c.as_slice.result.now part.0 c.in_err-send_request.field-0.0
    c.in_ok-request.ensures.ok.1 is part.1 current c.in_err-send_request.ensures.fault)

pub take_replies-requires-clause-under_way : goal.take_replies-requires-clause-under_way
take_replies-requires-clause-under_way g c =
    let a = asking_of c.args.client.now.client c.args.client.now.session.current in
    under_way a c.request.new.self.client c.request.new.self.session c.args.made.now.items c.args.made.now.items (c.in_ok-request.ensures.begun c.args.made.now.items)

pub returns-clause-exchanges : goal.returns-clause-exchanges
returns-clause-exchanges g c =
    let a = asking_of c.args.client.now.client c.args.client.now.session.current in
    let is = c.as_slice.ensures.value ∙ c.in_ok-request.ensures.ok.0 in
    let before = c.args.made.now.items in
    replied c.args.limits.now c.args.over a (g.S.Source.remaining c.args.src.now) (g.S.Source.remaining c.take_replies.new.src) (g.K.Sink.taken c.args.sink.now) (g.K.Sink.taken c.send_request.new.sink) before c.take_replies.new.made.items c.take_replies.new.client.session c.as_slice.result.now c.take_replies.result
    c.in_ok-request.ensures.ok.1 is c.in_ok-send_request.ensures.sent (c.take_replies.ensures.ends a before (c.in_ok-request.ensures.begun before))

pub returns-in_err-request-clause-history : goal.returns-in_err-request-clause-history
returns-in_err-request-clause-history g c = grows_still c.args.client.now.session c.request.new.self.session c.args.made.now.items c.args.made.now.items (ap (λ x. x.past) c.request.ensures.session) refl

pub returns-in_err-send_request-clause-history : goal.returns-in_err-send_request-clause-history
returns-in_err-send_request-clause-history g c = grows_still c.args.client.now.session c.request.new.self.session c.args.made.now.items c.args.made.now.items (ap (λ x. x.past) c.request.ensures.session) refl

pub returns-clause-history : goal.returns-clause-history
returns-clause-history g c =
    let first = grows_still c.args.client.now.session c.request.new.self.session c.args.made.now.items c.args.made.now.items (ap (λ x. x.past) c.request.ensures.session) refl in
    grows_on c.args.client.now.session.past c.request.new.self.session.past c.take_replies.new.client.session.past c.args.made.now.items c.args.made.now.items c.take_replies.new.made.items first c.take_replies.ensures.history
