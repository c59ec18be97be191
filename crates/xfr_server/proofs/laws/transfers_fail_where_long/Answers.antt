use Rattle.xfr_server.proofs.LongRequests.{transfer_fails}
use Rattle.xfr_server.proofs.laws.transfers_fail_where_long.Goals as goal

pub returns : goal.returns
returns g c = λ next provider short r sent sends failed.
    transfer_fails _ (g.N.Service.Sends next) (g.X.XfrDataProvider.told provider) short r sent sends failed
