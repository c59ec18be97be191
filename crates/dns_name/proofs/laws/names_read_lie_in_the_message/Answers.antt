use Rattle.dns_name.proofs.NameBounds.{read_is_name, name_ends_within, name_stays}
use Rattle.dns_name.proofs.laws.names_read_lie_in_the_message.Goals as goal

pub returns-clause-limits : goal.returns-clause-limits
returns-clause-limits c = read_is_name

pub returns-clause-ends : goal.returns-clause-ends
returns-clause-ends c = name_ends_within

pub returns-clause-stays : goal.returns-clause-stays
returns-clause-stays c = name_stays
