-- Worked transfers that have to succeed: a primary that keeps a history of three versions, and secondaries that have the first or the last of them.
use Rattle.std.specs.Prelude.{false, List, [], ◌∷◌, codes}
use Rattle.dns_rdata.specs.Records.{Record}
use Rattle.tsig_port.specs.Tsig.{TsigKey}
use Rattle.tsig_keys.specs.Hmac.{block_key}
use Rattle.tsig_keys.specs.declared.algorithms.Algorithm.TheVariants.{Sha256}
use Rattle.zone_model.specs.Version.{Version}
use Rattle.zone_model.specs.Difference.{Difference}
use Rattle.zone_model.specs.TransferText.{Mode, Axfr}
use Rattle.zone_model.specs.Offer.{Offer, Provider}
use Rattle.zone_model.specs.ZoneRows as rows
use Rattle.xfr_providers.specs.Offers.{key_id}
use Rattle.xfr_client.specs.SoFar.{Asking, asks_with}
use Rattle.zone_sync.specs.Grants.{history_offer}

abbrev pub key : TsigKey
key = record { name = codes "key" ∷ []; algorithm = Sha256; secret = block_key Sha256 (0 ∷ 1 ∷ 2 ∷ []); min_mac_len = 32; signing_len = 32 }

-- the primary's provider, which grants what it keeps to the key
abbrev pub provider : Provider
provider = record { kept = rows.history_3; differences = rows.history_differences; grants = key_id key ∷ []; compatibility = false }

-- who asks in a mode at 1000, and has this version as its eighth
abbrev pub asks : Mode → Version → Asking
asks mode base = asks_with key mode 1000 (record { number = 7; version = base })

-- .. and has it under the greatest number
abbrev pub asks_last : Asking
asks_last = asks_with key Axfr 1000 (record { number = 18446744073709551615; version = rows.empty_zone })

-- the same key with MACs of 16 octets, under the name in capitals, and who asks with that; and as a primary has it that takes such, and signs with 32
abbrev pub half_key : TsigKey
half_key = record key { name = codes "KEY" ∷ []; min_mac_len = 16; signing_len = 16 }

abbrev pub half_asks : Asking
half_asks = asks_with half_key Axfr 1000 (record { number = 7; version = rows.empty_zone })

abbrev pub lenient_key : TsigKey
lenient_key = record key { min_mac_len = 16 }

abbrev pub offered : Mode → Version → Offer
offered mode base = history_offer provider (asks mode base)

-- the last version, offered with any differences
abbrev pub with_differences : List Difference → Offer
with_differences differences = record { version = rows.history_3; differences = differences; compatibility = false }

-- the whole text of the version that is kept
abbrev pub whole : List Record
whole = rows.soa 3 ∷ rows.ns rows.e rows.ns_host ∷ rows.address rows.jain 2 ∷ rows.address rows.jain 3 ∷ rows.address rows.ns_host 1 ∷ rows.soa 3 ∷ []
