use Rattle.std.proofs.Common.{refl}
use Rattle.zone_primary_run.proofs.Faults.{none_met}
use Rattle.zone_primary_run.proofs.program.run_at.Goals as goal

pub returns-in-Some-clause-runs : goal.returns-in-Some-clause-runs
returns-in-Some-clause-runs g c = rw c.in-Some.is (c.run_primary.ensures.runs, c.run_primary.ensures.too_long)

pub returns-in-None-clause-runs : goal.returns-in-None-clause-runs
returns-in-None-clause-runs g c = rw c.in-None.is (record { told = refl; unread = refl; unserved = (refl, refl) })

pub returns-in-Some-clause-faults : goal.returns-in-Some-clause-faults
returns-in-Some-clause-faults g c =
    let e = c.run_primary.ensures in record {
      script_failed = e.script_failed;
      script_steady = e.script_steady;
      source_failed = e.source_failed;
      source_steady = e.source_steady;
      sink_failed = e.sink_failed;
      sink_steady = e.sink_steady;
    }

pub returns-in-None-clause-faults : goal.returns-in-None-clause-faults
returns-in-None-clause-faults g c = none_met _ _ _ _ (λ h. cc h) (λ h. cc h) (λ h. cc h)
