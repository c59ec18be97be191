use Rattle.zone_sync.specs.Serving.{request_at}
use Rattle.zone_sync.proofs.Delivery.{delivered}
use Rattle.zone_sync.proofs.laws.honest_links_deliver.Goals as goal

pub returns : goal.returns
returns g c = λ primary a at longest v old new f h before handles s answer grant honest says fault.
    delivered (λ m. g.P.Service.Sends primary (request_at m at)) a at longest v old new f h before handles s answer grant honest says fault
