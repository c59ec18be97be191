use Rattle.name_keys.proofs.KeyOrder.{names_order}
use Rattle.name_keys.proofs.laws.keys_compare_as_names.Goals as goal

pub returns : goal.returns
returns c = names_order
