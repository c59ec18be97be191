use Rattle.xfr_client.proofs.EditsLead.{edits_lead, deletes_fit, adds_fit}
use Rattle.xfr_client.proofs.laws.edits_lead.Goals as goal

pub returns-clause-lead : goal.returns-clause-lead
returns-clause-lead c = edits_lead

pub returns-clause-deletes : goal.returns-clause-deletes
returns-clause-deletes c = deletes_fit

pub returns-clause-adds : goal.returns-clause-adds
returns-clause-adds c = adds_fit
