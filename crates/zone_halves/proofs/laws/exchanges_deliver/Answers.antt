use Rattle.zone_sync.specs.Serving.{request_at}
use Rattle.zone_halves.proofs.Meeting.{exchange_delivers}
use Rattle.zone_halves.proofs.laws.exchanges_deliver.Goals as goal

pub returns : goal.returns
returns g c primary limits a at v x before handles s answer k grant w steady =
    exchange_delivers c.frames_written_are_cut.ensures.alone c.octets_are_cut_frame_by_frame.ensures.none c.messages_pass_limits.ensures.beyond c.none_is_passed_over.ensures c.granted_transfers_are_a_message_a_page.ensures.asked
    (λ m. g.P.Service.Sends primary (request_at m at)) a at v (λ old new. c.honest_links_deliver.ensures primary a at 65535 v old new) grant limits before handles s answer x k w steady
