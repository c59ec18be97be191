use Rattle.xfr_server.proofs.GrantedTransfers.{whole_sent}
use Rattle.xfr_server.proofs.laws.granted_transfers_are_sent.Goals as goal

pub returns : goal.returns
returns g c = λ next provider keys r key mode serial offer sent.
    whole_sent _ g.KS.Key.KeyRef.the_key (g.KS.KeyStore.key_of keys) (g.N.Service.Sends next) (g.X.XfrDataProvider.told provider) r key mode serial offer sent
