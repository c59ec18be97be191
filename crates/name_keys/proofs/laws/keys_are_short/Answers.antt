use Rattle.name_keys.proofs.Bounds.{key_short}
use Rattle.name_keys.proofs.laws.keys_are_short.Goals as goal

pub returns : goal.returns
returns c = key_short
