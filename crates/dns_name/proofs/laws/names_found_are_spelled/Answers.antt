use Rattle.dns_name.proofs.NameFinding.{found_is_spelled, spelled_is_found}
use Rattle.dns_name.proofs.laws.names_found_are_spelled.Goals as goal

pub returns-clause-spelled : goal.returns-clause-spelled
returns-clause-spelled c = found_is_spelled

pub returns-clause-found : goal.returns-clause-found
returns-clause-found c = spelled_is_found
