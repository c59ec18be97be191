use Rattle.std.proofs.Common.{◌≡◌, ℕ, List, [], map, take, bit_xor, subst}
use Rattle.std.proofs.lemmas.List.{take-map}
use Rattle.tsig_keys.specs.Hmac.{block_len}
use Rattle.tsig_keys.specs.HmacState.{HoldsHash}
use Rattle.tsig_keys.proofs.digests.padded.Goals as goal

pub returns : goal.returns
returns c =
    let f = λ (k : ℕ). bit_xor k c.args.octet in
    let block = take c.block_len.result c.mask.new.octets in
    let same : block ≡ map f (take (block_len c.args.algorithm) c.args.block.now) =
    rw (c.block_len.ensures.block, c.mask.ensures) (take-map f (block_len c.args.algorithm) c.args.block.now) in
    subst (λ (t : List ℕ). HoldsHash c.update.new.self c.args.algorithm t) same (c.update.ensures c.args.algorithm [] c.new-hasher.ensures)
