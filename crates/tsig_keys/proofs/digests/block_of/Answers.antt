use Rattle.std.proofs.Common.{arith, ◌≤◌, ◌<◌, length, [], ◌∙◌}
use Rattle.tsig_keys.specs.Hmac.{block_len}
use Rattle.tsig_keys.proofs.KeyBlocks.{short_filled, long_filled}
use Rattle.tsig_keys.proofs.digests.block_of.Goals as goal

pub returns-then-key-block_len : goal.returns-then-key-block_len
returns-then-key-block_len c =
    let fits : length c.args.key.now ≤ block_len c.args.algorithm = omega arith in
    rw c.filled_up.ensures (short_filled c.args.algorithm c.args.key.now fits)

pub returns : goal.returns
returns c =
    let long : block_len c.args.algorithm < length c.args.key.now = omega arith in
    let taken = c.update.ensures c.args.algorithm [] c.new-hasher.ensures in
    let is = c.finish-digest.ensures c.args.algorithm c.args.key.now taken in
    rw c.filled_up-2.ensures (long_filled c.args.algorithm c.args.key.now c.as_slice.result.now long (c.as_slice.ensures.octets ∙ is))
