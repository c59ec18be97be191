use Rattle.xfr_client.proofs.Published.{commits_what_is_spelt, commits_up_to_refusal}
use Rattle.xfr_client.proofs.laws.commits_what_is_spelt.Goals as goal

pub returns-clause-applied : goal.returns-clause-applied
returns-clause-applied c = commits_what_is_spelt

pub returns-clause-refused : goal.returns-clause-refused
returns-clause-refused c = commits_up_to_refusal
