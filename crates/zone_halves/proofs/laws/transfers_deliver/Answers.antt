use Rattle.xfr_client.specs.SoFar.{asked_octets}
use Rattle.zone_sync.specs.Serving.{request_at}
use Rattle.zone_halves.specs.Meeting.{IsWritten}
use Rattle.zone_halves.proofs.Meeting.{rule_delivers}
use Rattle.zone_halves.proofs.laws.transfers_deliver.Goals as goal

pub returns : goal.returns
returns g c primary limits a at v x before handles s answer k grant w steady =
    rule_delivers limits a v x before handles s answer (λ source. IsWritten (g.P.Service.Sends primary (request_at (asked_octets a) at)) limits a source)
    (λ y later t r e written still. c.exchanges_deliver.ensures primary limits a at v y before later t r e grant written still) k w steady
