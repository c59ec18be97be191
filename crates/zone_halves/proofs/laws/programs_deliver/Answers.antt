use Rattle.zone_asking.specs.Running.{asking_at}
use Rattle.zone_halves.proofs.Programs.{request_is_short}
use Rattle.zone_halves.proofs.laws.programs_deliver.Goals as goal

pub returns : goal.returns
returns c p served v w at script key m result serves asks grant taken =
    let writes = c.one_request_is_served.ensures p served _ m.streams.left_old (request_is_short _ (asking_at at w.mode script key) served v grant) serves in
    c.fetched_versions_are_granted.ensures p served v w at script key m result asks grant (record { writes = writes; taken = taken writes.messages writes.sends })
