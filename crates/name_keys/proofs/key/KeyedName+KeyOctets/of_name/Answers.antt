use Rattle.name_keys.proofs.Reading.{key_invariant, spelled}
use Rattle.name_keys.proofs.key.KeyedName+KeyOctets.of_name.Goals as goal

pub invariant_of-result : goal.invariant_of-result
invariant_of-result g c = key_invariant c.fill.new.self c.args.name.now c.fill.ensures.key c.fill.ensures.name

pub returns : goal.returns
returns g c = spelled c.fill.new.self c.args.name.now c.fill.ensures.key
