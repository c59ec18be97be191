use Rattle.std.proofs.Common.{None, ◌∙◌, ap, sym, subst}
use Rattle.std.specs.List.{last_or}
use Rattle.tsig_port.specs.Tsig.{TsigKey}
use Rattle.tsig_port.specs.HmacState.{HoldsHmac}
use Rattle.tsig_port.specs.Signers.{later_tsig}
use Rattle.tsig_port.specs.States.{digested_before}
use Rattle.tsig_port.proofs.Answering.{later_is}
use Rattle.tsig_port.proofs.server.ServerSequence.next_tsig.Goals as goal

pub returns-else-self : goal.returns-else-self
returns-else-self g c = λ request_mac macs stands.
    let key = g.K.KeyRef.the_key c.args.self.now.key in
    let before = digested_before request_mac (last_or None macs) in
    let m = c.args.message.now.octets in
    let held = subst (λ h. HoldsHmac h key.algorithm key.secret before) (sym c.duplicate-before.ensures) stands.context in
    let by_key = subst (λ (k : TsigKey). HoldsHmac c.duplicate-before.result k.algorithm k.secret before) (sym c.key_ref-key.ensures) held in
    c.sign_later.ensures before by_key
    ∙ ap (λ (k : TsigKey). later_tsig k before m c.args.now c.args.fudge) c.key_ref-key.ensures
    ∙ later_is c.args.self.now.first key request_mac macs m c.args.now c.args.fudge c.if-self.false stands.first
