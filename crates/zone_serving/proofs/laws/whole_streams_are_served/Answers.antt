use Rattle.zone_serving.specs.StreamServing.{request_at}
use Rattle.zone_serving.proofs.Telling.{served_well}
use Rattle.zone_serving.proofs.laws.whole_streams_are_served.Goals as goal

pub returns : goal.returns
returns g c primary at =
    served_well c.octets_are_cut_frame_by_frame.ensures.some c.octets_are_cut_frame_by_frame.ensures.none (λ m. g.P.Service.Sends primary (request_at m at))
