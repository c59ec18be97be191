use Rattle.std.proofs.Common.{refl, [], ◌∷◌, sym, ap, ◌∙◌, subst, inl, inr, Some, None, Err}
use Rattle.std.proofs.lemmas.Result.{err_from_is_err_and}
use Rattle.zone_devices.specs.Calls.{Rose}
use Rattle.xfr_outcomes.specs.declared.outcome.SyncError.TheVariants as why
use Rattle.xfr_services.specs.LongReplies.{HasLongQuestions}
use Rattle.zone_sync.specs.Serving.{request_at}
use Rattle.xfr_client.specs.SoFar.{CanAsk}
use Rattle.xfr_client.specs.Standing.{asking_of}
use Rattle.zone_sync.proofs.Passing.{nothing_more, request_taken, request_handed, requests_ended, link_on}
use Rattle.xfr_client.proofs.Checking.{headed}
use Rattle.zone_sync.proofs.Exchanges.{not_made, not_carried, not_handed, no_message, headless, not_served, replied, under_way}
use Rattle.zone_sync.proofs.LongQuestions.{the_error, handed_long, not_unmade, not_of_link, not_of_replies}
use Rattle.xfr_client.proofs.Growing.{grows_on, grows_still}
use Rattle.zone_sync.proofs.sync.exchange.Goals as goal

pub returns-in_err-request-clause-says : goal.returns-in_err-request-clause-says
returns-in_err-request-clause-says g c =
    let a = asking_of c.args.client.now.client c.args.client.now.session.current in
    let first = g.L.Link.lists c.args.link.now in
    let before = c.args.made.now.items in
    let s = c.request.new.self.session in
    let longest = g.L.Link.longest c.args.link.now in
    let p = err_from_is_err_and c.from_residual.result c.from_residual.ensures.1 in
    let current = ap (λ x. x.current) c.request.ensures.session in
    rw (p.1, p.2) (not_made (λ m. g.P.Service.Sends c.args.primary.now (request_at m c.args.at_primary)) a longest c.max_len.result first before s c.in_err-request.field-0.0 c.max_len.ensures c.in_err-request.ensures.refused current)

pub returns-in_err-sent-clause-says : goal.returns-in_err-sent-clause-says
returns-in_err-sent-clause-says g c =
    let a = asking_of c.args.client.now.client c.args.client.now.session.current in
    let first = g.L.Link.lists c.args.link.now in
    let before = c.args.made.now.items in
    let s = c.request.new.self.session in
    let longest = g.L.Link.longest c.args.link.now in
    let p = err_from_is_err_and c.from_residual-in_err-sent.result c.from_residual-in_err-sent.ensures.1 in
    let current = ap (λ x. x.current) c.request.ensures.session in
    let can = subst (CanAsk a) c.max_len.ensures c.in_ok-request.ensures.ok.1 in
    rw (p.1, p.2) (not_carried (λ m. g.P.Service.Sends c.args.primary.now (request_at m c.args.at_primary)) a longest first (g.L.Link.lists c.send_request-sent.new.self) before s c.in_err-sent.field-0.0 [] can (nothing_more first (g.L.Link.lists c.send_request-sent.new.self) (rw c.in_err-sent.was at c.send_request-sent.ensures.err)) (inr refl) current)

pub returns-in_err-asked-clause-says : goal.returns-in_err-asked-clause-says
returns-in_err-asked-clause-says g c =
    let a = asking_of c.args.client.now.client c.args.client.now.session.current in
    let first = g.L.Link.lists c.args.link.now in
    let before = c.args.made.now.items in
    let s = c.request.new.self.session in
    let longest = g.L.Link.longest c.args.link.now in
    let p = err_from_is_err_and c.from_residual-in_err-asked.result c.from_residual-in_err-asked.ensures.1 in
    let current = ap (λ x. x.current) c.request.ensures.session in
    let can = subst (CanAsk a) c.max_len.ensures c.in_ok-request.ensures.ok.1 in
    let m = c.as_slice.result.now in
    let is = c.as_slice.ensures.value ∙ c.in_ok-request.ensures.ok.0 in
    let asked = ap (λ x. x ∷ []) is in
    let mid = g.L.Link.lists c.send_request-sent.new.self in
    let took = request_taken first mid m (rw c.in_ok-sent.was at c.send_request-sent.ensures.ok) in
    rw (p.1, p.2) (not_carried (λ m. g.P.Service.Sends c.args.primary.now (request_at m c.args.at_primary)) a longest first (g.L.Link.lists c.take_request.new.self) before s c.in_err-asked.field-0.0 (m ∷ []) can (link_on first mid (g.L.Link.lists c.take_request.new.self) (m ∷ []) [] [] [] [] [] [] [] took (nothing_more mid (g.L.Link.lists c.take_request.new.self) c.in_err-asked.ensures.err)) (inl asked) current)

pub returns-in_default-clause-says : goal.returns-in_default-clause-says
returns-in_default-clause-says g c =
    let a = asking_of c.args.client.now.client c.args.client.now.session.current in
    let first = g.L.Link.lists c.args.link.now in
    let before = c.args.made.now.items in
    let s = c.request.new.self.session in
    let longest = g.L.Link.longest c.args.link.now in
    let current = ap (λ x. x.current) c.request.ensures.session in
    let can = subst (CanAsk a) c.max_len.ensures c.in_ok-request.ensures.ok.1 in
    let m = c.as_slice.result.now in
    let is = c.as_slice.ensures.value ∙ c.in_ok-request.ensures.ok.0 in
    let asked = ap (λ x. x ∷ []) is in
    let mid = g.L.Link.lists c.send_request-sent.new.self in
    let took = request_taken first mid m (rw c.in_ok-sent.was at c.send_request-sent.ensures.ok) in
    not_handed (λ m. g.P.Service.Sends c.args.primary.now (request_at m c.args.at_primary)) a longest first (g.L.Link.lists c.take_request.new.self) before s (m ∷ []) can (link_on first mid (g.L.Link.lists c.take_request.new.self) (m ∷ []) [] [] [] [] [] [] [] took (request_handed mid (g.L.Link.lists c.take_request.new.self) None (rw c.in_default.is at c.in_ok-asked.ensures.ok))) asked current (requests_ended mid (g.L.Link.lists c.take_request.new.self) (rw c.in_default.is at c.in_ok-asked.ensures.ok))

pub returns-in_err-from_octets-clause-says : goal.returns-in_err-from_octets-clause-says
returns-in_err-from_octets-clause-says g c =
    let a = asking_of c.args.client.now.client c.args.client.now.session.current in
    let first = g.L.Link.lists c.args.link.now in
    let before = c.args.made.now.items in
    let s = c.request.new.self.session in
    let longest = g.L.Link.longest c.args.link.now in
    let p = err_from_is_err_and c.from_residual-in_err-from_octets.result c.from_residual-in_err-from_octets.ensures.1 in
    let current = ap (λ x. x.current) c.request.ensures.session in
    let can = subst (CanAsk a) c.max_len.ensures c.in_ok-request.ensures.ok.1 in
    let m = c.as_slice.result.now in
    let is = c.as_slice.ensures.value ∙ c.in_ok-request.ensures.ok.0 in
    let asked = ap (λ x. x ∷ []) is in
    let mid = g.L.Link.lists c.send_request-sent.new.self in
    let took = request_taken first mid m (rw c.in_ok-sent.was at c.send_request-sent.ensures.ok) in
    let heard = c.in-Some.asked.items in
    let told = g.L.Link.lists c.take_request.new.self in
    let heard_it = link_on first mid told (m ∷ []) [] [] [] [] (heard ∷ []) [] [] took (request_handed mid told (Some heard) (rw c.in-Some.is at c.in_ok-asked.ensures.ok)) in
    rw (p.1, p.2) (no_message (λ m. g.P.Service.Sends c.args.primary.now (request_at m c.args.at_primary)) a longest first told before s c.in_err-from_octets.field-0.0 (m ∷ []) heard can heard_it asked current (headless heard c.in_err-from_octets.ensures.short))

pub returns-in_err-serve-clause-says : goal.returns-in_err-serve-clause-says
returns-in_err-serve-clause-says g c =
    let a = asking_of c.args.client.now.client c.args.client.now.session.current in
    let first = g.L.Link.lists c.args.link.now in
    let before = c.args.made.now.items in
    let s = c.request.new.self.session in
    let longest = g.L.Link.longest c.args.link.now in
    let p = err_from_is_err_and c.from_residual-in_err-serve.result c.from_residual-in_err-serve.ensures.1 in
    let current = ap (λ x. x.current) c.request.ensures.session in
    let can = subst (CanAsk a) c.max_len.ensures c.in_ok-request.ensures.ok.1 in
    let m = c.as_slice.result.now in
    let is = c.as_slice.ensures.value ∙ c.in_ok-request.ensures.ok.0 in
    let asked = ap (λ x. x ∷ []) is in
    let mid = g.L.Link.lists c.send_request-sent.new.self in
    let took = request_taken first mid m (rw c.in_ok-sent.was at c.send_request-sent.ensures.ok) in
    let heard = c.in-Some.asked.items in
    let told = g.L.Link.lists c.take_request.new.self in
    let heard_it = link_on first mid told (m ∷ []) [] [] [] [] (heard ∷ []) [] [] took (request_handed mid told (Some heard) (rw c.in-Some.is at c.in_ok-asked.ensures.ok)) in
    let then = g.L.Link.lists c.serve.new.link in
    rw (p.1, p.2) (not_served (λ m. g.P.Service.Sends c.args.primary.now (request_at m c.args.at_primary)) a longest first told then before s c.in_err-serve.field-0.0 (m ∷ []) heard can heard_it asked current (headed heard c.in_ok-from_octets.ensures.whole) (rw c.in_ok-from_octets.ensures.found at c.in_err-serve.ensures.served))

pub take_replies-requires : goal.take_replies-requires
take_replies-requires g c =
    let a = asking_of c.args.client.now.client c.args.client.now.session.current in
    let first = g.L.Link.lists c.args.link.now in
    let before = c.args.made.now.items in
    let s = c.request.new.self.session in
    let longest = g.L.Link.longest c.args.link.now in
    let st = c.in_ok-request.ensures.begun before in
    under_way a c.request.new.self.client s before before st

pub returns-clause-says : goal.returns-clause-says
returns-clause-says g c =
    let a = asking_of c.args.client.now.client c.args.client.now.session.current in
    let first = g.L.Link.lists c.args.link.now in
    let before = c.args.made.now.items in
    let s = c.request.new.self.session in
    let longest = g.L.Link.longest c.args.link.now in
    let current = ap (λ x. x.current) c.request.ensures.session in
    let can = subst (CanAsk a) c.max_len.ensures c.in_ok-request.ensures.ok.1 in
    let m = c.as_slice.result.now in
    let is = c.as_slice.ensures.value ∙ c.in_ok-request.ensures.ok.0 in
    let asked = ap (λ x. x ∷ []) is in
    let mid = g.L.Link.lists c.send_request-sent.new.self in
    let took = request_taken first mid m (rw c.in_ok-sent.was at c.send_request-sent.ensures.ok) in
    let heard = c.in-Some.asked.items in
    let told = g.L.Link.lists c.take_request.new.self in
    let heard_it = link_on first mid told (m ∷ []) [] [] [] [] (heard ∷ []) [] [] took (request_handed mid told (Some heard) (rw c.in-Some.is at c.in_ok-asked.ensures.ok)) in
    let then = g.L.Link.lists c.serve.new.link in
    let st = c.in_ok-request.ensures.begun before in
    replied (λ m. g.P.Service.Sends c.args.primary.now (request_at m c.args.at_primary)) a longest first told then (g.L.Link.lists c.take_replies.new.link) before c.take_replies.new.made.items c.take_replies.new.client.session c.take_replies.result (m ∷ []) heard can heard_it asked (headed heard c.in_ok-from_octets.ensures.whole) (rw c.in_ok-from_octets.ensures.found at c.in_ok-serve.ensures.served) (c.take_replies.ensures.ends a before st)

pub returns-clause-failed : goal.returns-clause-failed
returns-clause-failed g c h =
    let a = asking_of c.args.client.now.client c.args.client.now.session.current in
    let first = g.L.Link.lists c.args.link.now in
    let before = c.args.made.now.items in
    let s = c.request.new.self.session in
    let longest = g.L.Link.longest c.args.link.now in
    let st = c.in_ok-request.ensures.begun before in
    let steady = c.in_ok-serve.ensures.steady (λ k. absurd (cc k)) ∙ c.in_ok-asked.ensures.steady (λ k. absurd (cc k)) ∙ (rw c.in_ok-sent.was at c.send_request-sent.ensures.steady) (λ k. absurd (cc k)) in
    subst (λ n. Rose n (g.L.Link.faults c.take_replies.new.link)) steady (c.take_replies.ensures.failed a before st h)

pub returns-in_err-request-clause-long : goal.returns-in_err-request-clause-long
returns-in_err-request-clause-long g c e h =
    let p = err_from_is_err_and c.from_residual.result c.from_residual.ensures.1 in
    let is = sym p.2 ∙ the_error c.from_residual.result p.0 (why.Primary e) p.1 h in
    not_unmade (asking_of c.args.client.now.client c.args.client.now.session.current) c.max_len.result c.in_err-request.field-0.0 e c.in_err-request.ensures.refused is

pub returns-in_err-sent-clause-long : goal.returns-in_err-sent-clause-long
returns-in_err-sent-clause-long g c e h =
    let p = err_from_is_err_and c.from_residual-in_err-sent.result c.from_residual-in_err-sent.ensures.1 in
    let is = sym p.2 ∙ the_error c.from_residual-in_err-sent.result p.0 (why.Primary e) p.1 h in
    not_of_link c.in_err-sent.field-0.0 e is

pub returns-in_err-asked-clause-long : goal.returns-in_err-asked-clause-long
returns-in_err-asked-clause-long g c e h =
    let p = err_from_is_err_and c.from_residual-in_err-asked.result c.from_residual-in_err-asked.ensures.1 in
    let is = sym p.2 ∙ the_error c.from_residual-in_err-asked.result p.0 (why.Primary e) p.1 h in
    not_of_link c.in_err-asked.field-0.0 e is

pub returns-in_default-clause-long : goal.returns-in_default-clause-long
returns-in_default-clause-long g c e h = absurd (cc h)

pub returns-in_err-from_octets-clause-long : goal.returns-in_err-from_octets-clause-long
returns-in_err-from_octets-clause-long g c e h =
    let p = err_from_is_err_and c.from_residual-in_err-from_octets.result c.from_residual-in_err-from_octets.ensures.1 in
    let is = sym p.2 ∙ the_error c.from_residual-in_err-from_octets.result p.0 (why.Primary e) p.1 h in
    absurd (cc is)

pub returns-in_err-serve-clause-long : goal.returns-in_err-serve-clause-long
returns-in_err-serve-clause-long g c e h =
    let p = err_from_is_err_and c.from_residual-in_err-serve.result c.from_residual-in_err-serve.ensures.1 in
    let is = sym p.2 ∙ the_error c.from_residual-in_err-serve.result p.0 (why.Primary e) p.1 h in
    let first = g.L.Link.lists c.args.link.now in
    let m = c.as_slice.result.now in
    let mid = g.L.Link.lists c.send_request-sent.new.self in
    let took = request_taken first mid m (rw c.in_ok-sent.was at c.send_request-sent.ensures.ok) in
    let heard = c.in-Some.asked.items in
    let told = g.L.Link.lists c.take_request.new.self in
    let heard_it = link_on first mid told (m ∷ []) [] [] [] [] (heard ∷ []) [] [] took (request_handed mid told (Some heard) (rw c.in-Some.is at c.in_ok-asked.ensures.ok)) in
    let then = g.L.Link.lists c.serve.new.link in
    let long = subst HasLongQuestions c.in_ok-from_octets.ensures.found (c.in_err-serve.ensures.long e (ap Err is)) in
    handed_long (g.P.Service.Sends c.args.primary.now (request_at heard c.args.at_primary)) first told then (m ∷ []) heard (Err c.in_err-serve.field-0.0) heard_it (headed heard c.in_ok-from_octets.ensures.whole) (rw c.in_ok-from_octets.ensures.found at c.in_err-serve.ensures.served) long

pub returns-clause-long : goal.returns-clause-long
returns-clause-long g c e h =
    let a = asking_of c.args.client.now.client c.args.client.now.session.current in
    let before = c.args.made.now.items in
    not_of_replies c.take_replies.result e (c.take_replies.ensures.ends a before (c.in_ok-request.ensures.begun before)).later h

pub returns-in_err-request-clause-history : goal.returns-in_err-request-clause-history
returns-in_err-request-clause-history g c = grows_still c.args.client.now.session c.request.new.self.session c.args.made.now.items c.args.made.now.items (ap (λ x. x.past) c.request.ensures.session) refl

pub returns-in_err-sent-clause-history : goal.returns-in_err-sent-clause-history
returns-in_err-sent-clause-history g c = grows_still c.args.client.now.session c.request.new.self.session c.args.made.now.items c.args.made.now.items (ap (λ x. x.past) c.request.ensures.session) refl

pub returns-in_err-asked-clause-history : goal.returns-in_err-asked-clause-history
returns-in_err-asked-clause-history g c = grows_still c.args.client.now.session c.request.new.self.session c.args.made.now.items c.args.made.now.items (ap (λ x. x.past) c.request.ensures.session) refl

pub returns-in_default-clause-history : goal.returns-in_default-clause-history
returns-in_default-clause-history g c = grows_still c.args.client.now.session c.request.new.self.session c.args.made.now.items c.args.made.now.items (ap (λ x. x.past) c.request.ensures.session) refl

pub returns-in_err-from_octets-clause-history : goal.returns-in_err-from_octets-clause-history
returns-in_err-from_octets-clause-history g c = grows_still c.args.client.now.session c.request.new.self.session c.args.made.now.items c.args.made.now.items (ap (λ x. x.past) c.request.ensures.session) refl

pub returns-in_err-serve-clause-history : goal.returns-in_err-serve-clause-history
returns-in_err-serve-clause-history g c = grows_still c.args.client.now.session c.request.new.self.session c.args.made.now.items c.args.made.now.items (ap (λ x. x.past) c.request.ensures.session) refl

pub returns-clause-history : goal.returns-clause-history
returns-clause-history g c =
    let first = grows_still c.args.client.now.session c.request.new.self.session c.args.made.now.items c.args.made.now.items (ap (λ x. x.past) c.request.ensures.session) refl in
    grows_on c.args.client.now.session.past c.request.new.self.session.past c.take_replies.new.client.session.past c.args.made.now.items c.args.made.now.items c.take_replies.new.made.items first c.take_replies.ensures.history
