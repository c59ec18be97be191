use Rattle.name_keys.proofs.Reading.{read_back}
use Rattle.name_keys.proofs.laws.keys_are_read_back.Goals as goal

pub returns : goal.returns
returns c = read_back
