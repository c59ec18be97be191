use Rattle.xfr_client.proofs.UpdatesLead.{updates_lead, updates_fit}
use Rattle.xfr_client.proofs.laws.updates_lead.Goals as goal

pub returns-clause-lead : goal.returns-clause-lead
returns-clause-lead c = updates_lead

pub returns-clause-fit : goal.returns-clause-fit
returns-clause-fit c = updates_fit
