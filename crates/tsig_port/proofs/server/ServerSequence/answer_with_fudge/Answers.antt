use Rattle.std.proofs.Common.{None, refl}
use Rattle.std.specs.List.{last_or}
use Rattle.tsig_port.specs.Tsig.{answer_tsig}
use Rattle.tsig_port.proofs.Answering.{next_chained, not_none}
use Rattle.tsig_port.proofs.server.ServerSequence.answer_with_fudge.Goals as goal

pub returns-clause-gone : goal.returns-clause-gone
returns-clause-gone g c = (
  refl,
  λ request_mac macs stands.
      let key = g.K.KeyRef.the_key c.args.self.now.key in
      let t = answer_tsig key request_mac (last_or None macs) c.args.message.now.octets c.args.now c.args.fudge in
      record {
        context = next_chained key c.key_ref-key.result.now c.chained-context.result request_mac macs c.mac_slice.result.now c.next_tsig-tsig.result t
            c.key_ref-key.ensures c.mac_slice.ensures.mac (c.next_tsig-tsig.ensures request_mac macs stands) c.chained-context.ensures;
        first = (λ e. absurd (cc e), not_none macs t.mac);
      },
)
