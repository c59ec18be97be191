use Rattle.std.proofs.Common.{◌∙◌}
use Rattle.name_keys.proofs.Reading.{key_invariant, spelled}
use Rattle.name_keys.proofs.key.KeyedName.borrowed.Goals as goal

pub invariant_of-result : goal.invariant_of-result
invariant_of-result g c = key_invariant c.as_slice.result.now c.args.self.now c.as_slice.ensures.value c.as_slice.ensures.name

pub returns-clause-value : goal.returns-clause-value
returns-clause-value g c = spelled c.as_slice.result.now c.args.self.now c.as_slice.ensures.value ∙ c.as_slice.ensures.folded
