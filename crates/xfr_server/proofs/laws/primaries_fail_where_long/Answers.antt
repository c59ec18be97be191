use Rattle.xfr_server.proofs.LongRequests.{primary_fails}
use Rattle.xfr_server.proofs.laws.primaries_fail_where_long.Goals as goal

pub returns : goal.returns
returns g c = λ next provider keys short r sent sends failed.
    primary_fails _ g.KS.Key.KeyRef.the_key (g.KS.KeyStore.key_of keys) (g.N.Service.Sends next) (g.X.XfrDataProvider.told provider) short r sent sends failed
