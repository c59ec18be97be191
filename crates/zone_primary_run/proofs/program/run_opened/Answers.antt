use Rattle.zone_primary_run.proofs.Faults.{none_met}
use Rattle.zone_primary_run.proofs.program.run_opened.Goals as goal

pub returns-else-opened-clause-faults : goal.returns-else-opened-clause-faults
returns-else-opened-clause-faults g c = none_met _ _ _ _ (λ h. cc h) (λ h. cc h) (λ h. cc h)
