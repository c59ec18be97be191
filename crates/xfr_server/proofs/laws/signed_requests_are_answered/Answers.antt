use Rattle.std.proofs.Common.{◌≡◌, None}
use Rattle.xfr_server.proofs.SignedAnswers.{transfer_answered, other_handed}
use Rattle.xfr_server.proofs.laws.signed_requests_are_answered.Goals as goal

pub returns : goal.returns
returns g c = record {
  transfers = λ next provider keys r key mode sent.
      transfer_answered _ g.KS.Key.KeyRef.the_key (g.KS.KeyStore.key_of keys) (g.N.Service.Sends next) (g.X.XfrDataProvider.told provider) r key mode sent;
  others = λ next provider keys r key sent.
      other_handed (λ o. o ≡ None) g.KS.Key.KeyRef.the_key (g.KS.KeyStore.key_of keys) (g.N.Service.Sends next) (g.X.XfrDataProvider.told provider) r key (λ o is. is) sent;
}
