use Rattle.std.proofs.Common.{◌≡◌, ◌+◌, ◌≤◌, min, length, refl, ◌∙◌, subst, arith}
use Rattle.std.specs.Prelude.{option_map, Err}
use Rattle.std.proofs.lemmas.Result.{err_from_is_err_and}
use Rattle.dns_name.specs.Names.{fold}
use Rattle.tsig_port.specs.Tsig.{compose_len}
use Rattle.xfr_services.specs.Items.{Gives, Calls}
use Rattle.xfr_services.specs.LongReplies.{longest_tsig}
use Rattle.xfr_signing.specs.SignedServing.{as_received, accepted_request, signer_for}
use Rattle.xfr_services.specs.declared.requests.Request.{Request}
use Rattle.xfr_signing.specs.SignedStreams.{SignedLeft}
use Rattle.xfr_signing.proofs.CallFailing.{signing_fails, handed_fails}
use Rattle.xfr_signing.proofs.Sends.{request_is, begins, call_gives, call_fails}
use Rattle.xfr_signing.proofs.signing.TsigMiddlewareSvc.call_signed.Goals as goal

pub returns-clause-calls : goal.returns-clause-calls
returns-clause-calls g c =
    let the_key = g.KS.Key.KeyRef.the_key in
    let key = the_key c.args.sequence.key in
    let keys = g.KS.KeyStore.key_of c.self.inside.keys in
    let r = as_received c.args.request c.args.received in
    let known = c.get_key-known.result in
    let on = c.handed_on-request in
    let room : on.result.reserved ≡ min (r.reserved + compose_len key) 65535 = on.ensures.reserved ∙ rw (c.compose_len-reserved.ensures, c.key-key.ensures) refl in
    let asked : on.result ≡ accepted_request r key known =
    request_is on.result _ _ _ _ _ (on.ensures.message ∙ c.requires.taken) on.ensures.transport on.ensures.now on.ensures.metadata room in
    let found : option_map the_key known ≡ keys (fold key.name) key.algorithm =
    c.get_key-known.ensures.key ∙ rw (c.name.ensures, c.algorithm.ensures, c.key-key.ensures) refl in
    let P : Request _ → Type 0 = λ q. Gives (g.S.Service.Sends c.self.inside.next q) g.S.Stream.ReplyStream.LeftOf c.in_ok-call.field-0 in
    rw (← c.self.view_is)
    (call_gives the_key keys (g.S.Service.Sends c.self.inside.next) g.S.Stream.ReplyStream.LeftOf r known _ c.in_ok-call.field-0 c.requires.stands refl refl refl found (subst P asked c.in_ok-call.ensures.calls))

pub returns-clause-failing : goal.returns-clause-failing
returns-clause-failing g c =
    let the_key = g.KS.Key.KeyRef.the_key in
    let key = the_key c.args.sequence.key in
    let r = as_received c.args.request c.args.received in
    let on = c.handed_on-request in
    let header : 12 ≤ length c.args.received = subst (λ xs. 12 ≤ length xs) c.as_slice-len.ensures.value c.as_slice-len.ensures.header in
    let most = subst (λ k. compose_len k + 6 ≤ longest_tsig) c.key-key.ensures c.tell_short.ensures in
    let short : compose_len key ≤ longest_tsig = omega (arith, most) in
    signing_fails g.S.Stream.ReplyStream.LeftOf the_key c.args.received on.result.message header (on.ensures.message ∙ c.requires.taken) c.in_ok-call.field-0 _
    (signer_for r key) (begins the_key r _ c.requires.stands refl refl refl) refl short c.in_ok-call.ensures.failing

pub returns-in_err-call-clause-calls : goal.returns-in_err-call-clause-calls
returns-in_err-call-clause-calls g c =
    let the_key = g.KS.Key.KeyRef.the_key in
    let key = the_key c.args.sequence.key in
    let keys = g.KS.KeyStore.key_of c.self.inside.keys in
    let next = g.S.Service.Sends c.self.inside.next in
    let left = g.S.Stream.ReplyStream.LeftOf in
    let r = as_received c.args.request c.args.received in
    let known = c.get_key-known.result in
    let on = c.handed_on-request in
    let e = c.in_err-call.field-0.0 in
    let p = err_from_is_err_and c.from_residual.result c.from_residual.ensures.1 in
    let room : on.result.reserved ≡ min (r.reserved + compose_len key) 65535 = on.ensures.reserved ∙ rw (c.compose_len-reserved.ensures, c.key-key.ensures) refl in
    let asked : on.result ≡ accepted_request r key known =
    request_is on.result _ _ _ _ _ (on.ensures.message ∙ c.requires.taken) on.ensures.transport on.ensures.now on.ensures.metadata room in
    let found : option_map the_key known ≡ keys (fold key.name) key.algorithm =
    c.get_key-known.ensures.key ∙ rw (c.name.ensures, c.algorithm.ensures, c.key-key.ensures) refl in
    let P : Request _ → Type 0 = λ q. Calls (next q) left (Err e) in
    rw (← c.self.view_is, p.1, p.2) (call_fails the_key keys next left (SignedLeft left the_key) r key known e found (subst P asked c.in_err-call.ensures.calls))

pub returns-in_err-call-clause-failing : goal.returns-in_err-call-clause-failing
returns-in_err-call-clause-failing g c =
    let the_key = g.KS.Key.KeyRef.the_key in
    let left = g.S.Stream.ReplyStream.LeftOf in
    let on = c.handed_on-request in
    let p = err_from_is_err_and c.from_residual.result c.from_residual.ensures.1 in
    let header : 12 ≤ length c.args.received = subst (λ xs. 12 ≤ length xs) c.as_slice-len.ensures.value c.as_slice-len.ensures.header in
    rw (p.1, p.2) (handed_fails left the_key c.args.received on.result.message header (on.ensures.message ∙ c.requires.taken) (SignedLeft left the_key) c.in_err-call.field-0.0 c.in_err-call.ensures.failing)
