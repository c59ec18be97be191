use Rattle.std.proofs.Common.{arith}
use Rattle.std.proofs.lemmas.List.{drop_all}
use Rattle.name_keys.proofs.key_octets.KeyOctets.clear.Goals as goal

pub returns : goal.returns
returns c = drop_all 504 c.self.inside.octets (omega (arith, c.self.told))
