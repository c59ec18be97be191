use Rattle.std.proofs.Common.{◌≡◌, ap, ◌∙◌, sym, subst, refl}
use Rattle.dns_wire.specs.Wire.{Header, header_in}
use Rattle.tsig_port.specs.HmacState.{HoldsHmac}
use Rattle.tsig_port.specs.Checked.{prior_mac}
use Rattle.tsig_port.specs.States.{digested_before}
use Rattle.tsig_port.proofs.Sequences.{answer_judged, answer_loses, answer_chained, not_nothing}
use Rattle.tsig_port.proofs.client.ClientSequence.answer.Goals as goal

pub returns-in-Some-clause-checked : goal.returns-in-Some-clause-checked
returns-in-Some-clause-checked g c = λ request_mac taken stands.
    let key = g.K.KeyRef.the_key c.args.self.now.key in
    let m = c.args.message.now in
    let r = c.as_message-received.result in
    let s = c.in_ok-signed.signed in
    let before = digested_before request_mac (prior_mac taken) in
    let same_rcode : c.signed_fault.inside.rcode ≡ (header_in r).rcode = ap (λ (h : Header). h.rcode) (c.signed_fault.view_is ∙ c.header.ensures) in
    let begun = subst (λ h. HoldsHmac h key.algorithm key.secret before) (sym c.duplicate.ensures) stands.context in
    let holds = c.answer_context-context.ensures key.algorithm key.secret before begun in
    let judged = answer_judged key c.key_ref-key.result.now request_mac c.args.now taken m r s.start s.owner s.tsig c.signed_fault.inside.rcode
    c.answer_context-context.result c.args.self.now.first c.signed_fault-2.result c.key_ref-key.ensures c.as_message-received.ensures same_rcode c.in_ok-signed.ensures.found
    stands.first holds c.signed_fault-2.ensures in
    (judged ∙ c.in-Some.is, refl)

pub returns-clause-checked : goal.returns-clause-checked
returns-clause-checked g c = λ request_mac taken stands.
    let key = g.K.KeyRef.the_key c.args.self.now.key in
    let m = c.args.message.now in
    let r = c.as_message-received.result in
    let s = c.in_ok-signed.signed in
    let before = digested_before request_mac (prior_mac taken) in
    let same_rcode : c.signed_fault.inside.rcode ≡ (header_in r).rcode = ap (λ (h : Header). h.rcode) (c.signed_fault.view_is ∙ c.header.ensures) in
    let begun = subst (λ h. HoldsHmac h key.algorithm key.secret before) (sym c.duplicate.ensures) stands.context in
    let holds = c.answer_context-context.ensures key.algorithm key.secret before begun in
    let judged = answer_judged key c.key_ref-key.result.now request_mac c.args.now taken m r s.start s.owner s.tsig c.signed_fault.inside.rcode
    c.answer_context-context.result c.args.self.now.first c.signed_fault-2.result c.key_ref-key.ensures c.as_message-received.ensures same_rcode c.in_ok-signed.ensures.found
    stands.first holds c.signed_fault-2.ensures in
    let loses = answer_loses m r s.start c.original_id-original_id.result s.owner s.tsig c.as_message-received.ensures c.in_ok-signed.ensures.found c.original_id-original_id.ensures in
    (judged ∙ c.in_default.is, rw (c.remove_last_additional.ensures, c.set_id.ensures) loses)

pub returns-clause-taken : goal.returns-clause-taken
returns-clause-taken g c =
    let key = g.K.KeyRef.the_key c.args.self.now.key in
    let m = c.args.message.now in
    let r = c.as_message-received.result in
    let s = c.in_ok-signed.signed in (
      refl,
      λ request_mac taken stands. record {
        context = answer_chained key c.key_ref-key.result.now c.chained-context.result request_mac taken m r c.mac_slice.result.now s.start s.owner s.tsig
            c.key_ref-key.ensures c.as_message-received.ensures c.in_ok-signed.ensures.found c.mac_slice.ensures.mac c.chained-context.ensures;
        first = (λ e. absurd (cc e), not_nothing taken m);
      },
    )
