use Rattle.std.proofs.Common.{◌≡◌, ℕ, List, ◌++◌, subst}
use Rattle.dns_name.specs.Octets.{u16_octets, u48_octets}
use Rattle.tsig_port.specs.Tsig.{timers}
use Rattle.tsig_port.specs.HmacState.{HoldsHmac}
use Rattle.tsig_port.proofs.Taking.{two}
use Rattle.tsig_port.proofs.signature.update_timers.Goals as goal

pub returns : goal.returns
returns g c = λ a k t h.
    let tsig = c.args.tsig.now in
    let same : t ++ c.into_octets.result ++ c.to_be_bytes.result ≡ t ++ timers tsig =
    rw (c.into_octets.ensures, c.time_signed.ensures, c.to_be_bytes.ensures, c.fudge.ensures) (two t (u48_octets tsig.time_signed) (u16_octets tsig.fudge)) in
    subst (λ (x : List ℕ). HoldsHmac c.update-2.new.self a k x) same (c.update-2.ensures a k _ (c.update.ensures a k t h))
