use Rattle.std.proofs.Common.{[]}
use Rattle.xfr_client.specs.SoFar.{asked_octets}
use Rattle.zone_sync.specs.Serving.{request_at}
use Rattle.zone_asking.specs.Running.{asking_at}
use Rattle.zone_halves.specs.Meeting.{IsWritten}
use Rattle.zone_halves.proofs.Programs.{program_delivers}
use Rattle.zone_halves.proofs.laws.fetched_versions_are_granted.Goals as goal

pub returns : goal.returns
returns g c primary served v w at script key m result asks grant written =
    let a = asking_at at w.mode script key in
    program_delivers v w at script key (λ source. IsWritten (g.P.Service.Sends primary (request_at (asked_octets a) served)) w.limits a source)
    (λ x handles s answer k holds steady. c.transfers_deliver.ensures primary w.limits a served v x [] handles s answer k grant holds steady) m result asks written
