use Rattle.zone_lookup.proofs.Limits.{within, asked}
use Rattle.zone_lookup.proofs.reply_laws.replies_are_within_the_limit.Goals as goal

pub returns-clause-within : goal.returns-clause-within
returns-clause-within c = within

pub returns-clause-asked : goal.returns-clause-asked
returns-clause-asked c = asked
