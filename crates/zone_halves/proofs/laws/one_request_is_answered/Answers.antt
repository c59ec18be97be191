use Rattle.std.proofs.Common.{[], Some}
use Rattle.zone_sync.specs.Serving.{request_at}
use Rattle.message_frames.specs.Frames.{frame_of}
use Rattle.zone_halves.proofs.Serving.{one_request}
use Rattle.zone_halves.proofs.laws.one_request_is_answered.Goals as goal

pub returns : goal.returns
returns g c primary at request src_new sink_new s short k =
    one_request c.frames_written_are_cut.ensures.alone (λ m. g.P.Service.Sends primary (request_at m at)) request short sink_new s.requests src_new
    (c.ends_tell_the_octets.ensures.whole primary at (frame_of request) src_new (Some []) sink_new s k)
