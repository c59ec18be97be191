use Rattle.zone_primary_run.proofs.Faults.{none_met}
use Rattle.zone_primary_run.proofs.program.run_words.Goals as goal

pub returns-in-None-clause-faults : goal.returns-in-None-clause-faults
returns-in-None-clause-faults g c = none_met _ _ _ _ (λ h. cc h) (λ h. cc h) (λ h. cc h)
