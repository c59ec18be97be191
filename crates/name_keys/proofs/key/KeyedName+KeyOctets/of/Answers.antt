use Rattle.name_keys.proofs.Reading.{key_invariant, spelled}
use Rattle.name_keys.proofs.key.KeyedName+KeyOctets.of.Goals as goal

pub invariant_of-result : goal.invariant_of-result
invariant_of-result g c = key_invariant c.fill_labels.new.self (g.N.Labelled.labels c.args.name.now) c.fill_labels.ensures.key c.fill_labels.ensures.name

pub returns : goal.returns
returns g c = spelled c.fill_labels.new.self (g.N.Labelled.labels c.args.name.now) c.fill_labels.ensures.key
