use Rattle.std.proofs.Common.{refl}
use Rattle.tsig_port.specs.Tsig.{TsigKey}
use Rattle.tsig_port.specs.Keys.{own_key}
use Rattle.zone_model.specs.Difference.{zone_serial}
use Rattle.xfr_client.specs.SoFar.{asked_octets}
use Rattle.zone_sync.specs.Serving.{request_at}
use Rattle.zone_sync.specs.Grants.{history_offer}
use Rattle.zone_sync.proofs.Grants.{granted, kept_told, history_offers}
use Rattle.zone_sync.proofs.HonestRequests.{kind_of}
use Rattle.zone_sync.proofs.laws.history_primaries_grant.Goals as goal

pub returns : goal.returns
returns c = λ next provider server a at longest grants f short. record {
  server = server;
  offer = history_offer provider a;
  offered = refl;
  fits = f;
  grants = λ can sent.
      c.granted_transfers_are_sent.ensures next provider server (request_at (asked_octets a) at) server (kind_of a.mode) (zone_serial a.base.version) (history_offer provider a) sent
      (granted (λ (k : TsigKey). k) (own_key server) (kept_told provider) a server at (history_offer provider a) (history_offers provider server a at grants f can.forms) f can.forms);
  request_fits = short;
}
