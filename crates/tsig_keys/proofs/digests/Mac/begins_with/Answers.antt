use Rattle.std.proofs.Common.{length, take, sym, ap, arith}
use Rattle.std.proofs.lemmas.List.{length-take}
use Rattle.tsig_keys.proofs.Comparing.{shorter_differs}
use Rattle.tsig_keys.proofs.digests.Mac.begins_with.Goals as goal

pub returns-then-own-octets : goal.returns-then-own-octets
returns-then-own-octets c =
    let own = c.args.self.now in
    let n = length c.args.octets.now in
    sym (shorter_differs c.args.octets.now (take n own) (omega (arith, length-take n own, c.if-own-octets.true, ap length c.as_slice-own.ensures.octets)))
