use Rattle.tsig_keys.proofs.KeyBlocks.{hmac-block_key}
use Rattle.tsig_keys.proofs.laws.block_key_is_the_key.Goals as goal

pub returns : goal.returns
returns c = hmac-block_key
