use Rattle.dns_name.proofs.FoldedLabels.{equal_names, names_under, names_tied}
use Rattle.dns_name.proofs.laws.comparisons_are_of_folded_labels.Goals as goal

pub returns-clause-equal : goal.returns-clause-equal
returns-clause-equal c = equal_names

pub returns-clause-under : goal.returns-clause-under
returns-clause-under c = names_under

pub returns-clause-level : goal.returns-clause-level
returns-clause-level c = names_tied
