use Rattle.std.proofs.Common.{◌<◌, arith, bit_xor, get_or, length}
use Rattle.std.proofs.lemmas.List.{get_or_default}
use Rattle.std.proofs.lemmas.List.Edits.{map_over_more}
use Rattle.tsig_keys.proofs.digests.mask.Goals as goal

pub loop-octet-preserved : goal.loop-octet-preserved
loop-octet-preserved c =
    let s = c.loop-octet in
    let within : s.octet-index < length s.octets = omega arith in
    let x = get_or s.octets s.octet-index 0 in
    map_over_more (λ k. bit_xor k c.args.mask) c.args.octets.now s.octets s.octet-index x
    (omega arith) s.invariant (get_or_default s.octets s.octet-index 0 x within)
