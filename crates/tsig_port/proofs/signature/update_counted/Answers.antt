use Rattle.std.proofs.Common.{◌≡◌, ℕ, List, ◌++◌, length, subst}
use Rattle.dns_name.specs.Octets.{u16_octets}
use Rattle.tsig_port.specs.Tsig.{with_len}
use Rattle.tsig_port.specs.HmacState.{HoldsHmac}
use Rattle.tsig_port.proofs.Taking.{two}
use Rattle.tsig_port.proofs.signature.update_counted.Goals as goal

pub returns : goal.returns
returns c = λ a k t h.
    let octets = c.args.octets.now in
    let same : t ++ c.to_be_bytes.result ++ octets ≡ t ++ with_len octets = rw c.to_be_bytes.ensures (two t (u16_octets (length octets)) octets) in
    subst (λ (x : List ℕ). HoldsHmac c.update-2.new.self a k x) same (c.update-2.ensures a k _ (c.update.ensures a k t h))
