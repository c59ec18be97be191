use Rattle.dns_wire.proofs.Listing.{question_listed}
use Rattle.dns_wire.proofs.section_builders.QuestionBuilder.push.Goals as goal

pub returns-clause-listed : goal.returns-clause-listed
returns-clause-listed g c = question_listed _ _ _ _ c.push_question.ensures
