use Rattle.zone_model.specs.Difference.{zone_serial}
use Rattle.xfr_client.specs.SoFar.{asked_octets}
use Rattle.zone_sync.specs.Serving.{request_at}
use Rattle.zone_sync.proofs.Grants.{granted}
use Rattle.zone_sync.proofs.HonestRequests.{kind_of}
use Rattle.zone_sync.proofs.laws.granting_primaries_send_the_offered_text.Goals as goal

pub returns : goal.returns
returns g c = λ next provider keys a server at offer sent o f forms.
    c.granted_transfers_are_sent.ensures next provider keys (request_at (asked_octets a) at) server (kind_of a.mode) (zone_serial a.base.version) offer sent
    (granted g.KS.Key.KeyRef.the_key (g.KS.KeyStore.key_of keys) (g.X.XfrDataProvider.told provider) a server at offer o f forms)
