use Rattle.xfr_model.proofs.FinerSteps.{feeds_records}
use Rattle.xfr_model.proofs.FinerSteps.{denies_edits}
use Rattle.xfr_model.proofs.FinerSteps.{names_mode}
use Rattle.xfr_model.proofs.reading_laws.feeds_records.Goals as goal

pub returns-clause-feeds : goal.returns-clause-feeds
returns-clause-feeds c = feeds_records

pub returns-clause-denied : goal.returns-clause-denied
returns-clause-denied c = denies_edits

pub returns-clause-mode : goal.returns-clause-mode
returns-clause-mode c = names_mode
