use Rattle.name_keys.proofs.Reading.{one_key}
use Rattle.name_keys.proofs.laws.equal_names_have_one_key.Goals as goal

pub returns : goal.returns
returns c = one_key
