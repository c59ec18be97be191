use Rattle.zone_model.proofs.Condensed.{condensed_leads}
use Rattle.zone_model.proofs.offer_laws.condensed_leads.Goals as goal

pub returns : goal.returns
returns c = condensed_leads
