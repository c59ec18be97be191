use Rattle.std.proofs.Common.{sym}
use Rattle.name_keys.proofs.Reading.{key_invariant}
use Rattle.name_keys.proofs.key.KeyedName+ref+slice+u8.of_octets.Goals as goal

pub invariant_of-result : goal.invariant_of-result
invariant_of-result c = key_invariant c.args.octets.now c.requires.0 (sym c.requires.2) c.requires.1
