-- When a primary grants what a secondary asks (RFC 8945, 5.2.1; RFC 5936, 2.2; RFC 1995, 2).
use Rattle.std.specs.Prelude.{◌≡◌, ℕ, List, Option, Some, unwrap_or, Result, Ok}
use Rattle.dns_name.specs.Names.{fold}
use Rattle.tsig_port.specs.Tsig.{TsigKey}
use Rattle.tsig_port.specs.Checked.{taken_message}
use Rattle.tsig_port.specs.ServerCheck.{Keys}
use Rattle.zone_model.specs.Offer.{Offer, Provider, offer_of}
use Rattle.xfr_server.specs.Transfers as served
use Rattle.xfr_providers.specs.declared.providers.XfrDataProviderError.{XfrDataProviderError}
use Rattle.xfr_client.specs.SoFar.{Asking, asked_serial, asked_octets}

-- what a provider with a history offers to the request of one whose key it grants: what it keeps, with the differences from the serial that is named
abbrev pub history_offer : Provider → Asking → Offer
history_offer p a = offer_of p.kept p.differences p.compatibility (unwrap_or (asked_serial a) 0)

-- the primary has this key under the name, in any case, and algorithm of the secondary's, and its provider makes that offer to one who signs with it
pub record Offers {K : Type 0} (the_key : K → TsigKey) (keys : Keys) (told : List ℕ → Option K → Option ℕ → Result Offer XfrDataProviderError) (a : Asking) (server : TsigKey) (offer : Offer) : Type 0 where
  pub known : keys (fold a.key.name) a.key.algorithm ≡ Some server
  pub offered : (k : K) → the_key k ≡ server → told (taken_message (asked_octets a)) (Some k) (served.asked_serial (taken_message (asked_octets a))) ≡ Ok offer
