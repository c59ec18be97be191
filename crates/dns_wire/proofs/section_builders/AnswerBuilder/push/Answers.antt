use Rattle.dns_wire.proofs.Listing.{answer_listed}
use Rattle.dns_wire.proofs.section_builders.AnswerBuilder.push.Goals as goal

pub returns-clause-listed : goal.returns-clause-listed
returns-clause-listed g c = answer_listed _ _ _ _ c.push_record.ensures
