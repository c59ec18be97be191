use Rattle.zone_model.proofs.DifferenceLaws.{difference_leads}
use Rattle.zone_model.proofs.offer_laws.difference_leads.Goals as goal

pub returns : goal.returns
returns c = difference_leads
