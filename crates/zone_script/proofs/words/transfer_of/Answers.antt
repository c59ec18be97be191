use Rattle.std.proofs.Common.{rules, string_bytes}
use Rattle.zone_script.proofs.WordForms.{other_count}
use Rattle.zone_script.proofs.words.transfer_of.Goals as goal

pub returns-in_default-2-clause-other : goal.returns-in_default-2-clause-other
returns-in_default-2-clause-other c = other_count string_bytes c.args.words.now (search rules) (search rules)
