use Rattle.zone_lookup.proofs.OwnedRecords.{answers_are, authority_are, required_are, discardable_are}
use Rattle.zone_lookup.proofs.laws.replies_say_what_is_lent.Goals as goal

pub returns-clause-answers : goal.returns-clause-answers
returns-clause-answers c = answers_are

pub returns-clause-authority : goal.returns-clause-authority
returns-clause-authority c = authority_are

pub returns-clause-required : goal.returns-clause-required
returns-clause-required c = required_are

pub returns-clause-discardable : goal.returns-clause-discardable
returns-clause-discardable c = discardable_are
