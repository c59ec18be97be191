use Rattle.zone_serving.specs.StreamServing.{request_at}
use Rattle.zone_serving.proofs.Telling.{whole, cut, short}
use Rattle.zone_serving.proofs.laws.ends_tell_the_octets.Goals as goal

pub returns-clause-whole : goal.returns-clause-whole
returns-clause-whole g c primary at = whole (λ m. g.P.Service.Sends primary (request_at m at))

pub returns-clause-cut : goal.returns-clause-cut
returns-clause-cut g c primary at = cut c.octets_are_cut_frame_by_frame.ensures.none (λ m. g.P.Service.Sends primary (request_at m at))

pub returns-clause-short : goal.returns-clause-short
returns-clause-short g c primary at = short c.octets_are_cut_frame_by_frame.ensures.some (λ m. g.P.Service.Sends primary (request_at m at))
