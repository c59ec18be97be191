use Rattle.dns_wire.proofs.Listing.{authority_listed}
use Rattle.dns_wire.proofs.section_builders.AuthorityBuilder.push.Goals as goal

pub returns-clause-listed : goal.returns-clause-listed
returns-clause-listed g c = authority_listed _ _ _ _ c.push_record.ensures
