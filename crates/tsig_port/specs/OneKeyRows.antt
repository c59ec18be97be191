-- The keys of both sides of a worked exchange, one key with two spellings and other lengths, and what they sign.
use Rattle.std.specs.Prelude.{ℕ, List, [], ◌∷◌, codes}
use Rattle.dns_rdata.specs.RecordRows.{soa}
use Rattle.dns_wire.specs.Wire.{message_wire}
use Rattle.dns_wire.specs.MessageRows.{axfr_query, reply}
use Rattle.tsig_port.specs.Tsig.{TsigKey, signed_answers, signed_request, mac_in}
use Rattle.tsig_port.specs.ExchangeRows.{row_key}

-- the server's `key.` with whole MACs, which takes half ones
abbrev pub server_key : TsigKey
server_key = record row_key { min_mac_len = 16; signing_len = 32 }

-- the client's `KEY.` with half MACs, which takes such
abbrev pub client_key : TsigKey
client_key = record row_key { name = codes "KEY" ∷ []; min_mac_len = 16; signing_len = 16 }

-- a client's that takes whole ones alone
abbrev pub strict_key : TsigKey
strict_key = record client_key { min_mac_len = 32 }

abbrev pub client_request : List ℕ
client_request = signed_request client_key (message_wire axfr_query) 1000 300

abbrev pub server_replies : List (List ℕ)
server_replies = signed_answers server_key (mac_in client_request) 1000 300 (message_wire (reply (soa 1 ∷ [])) ∷ message_wire (reply (soa 1 ∷ [])) ∷ [])
