use Rattle.dns_wire.proofs.Listing.{additional_listed}
use Rattle.dns_wire.proofs.section_builders.AdditionalBuilder.push.Goals as goal

pub returns-clause-listed : goal.returns-clause-listed
returns-clause-listed g c = additional_listed _ _ _ _ c.push_record.ensures
