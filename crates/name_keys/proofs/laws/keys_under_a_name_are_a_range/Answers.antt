use Rattle.name_keys.proofs.Ranges.{begins_in_range, under_in_range}
use Rattle.name_keys.proofs.laws.keys_under_a_name_are_a_range.Goals as goal

pub returns-clause-strings : goal.returns-clause-strings
returns-clause-strings c = begins_in_range

pub returns-clause-names : goal.returns-clause-names
returns-clause-names c = under_in_range
