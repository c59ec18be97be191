-- What the service that checks and signs sends in answer to a request.
use Rattle.std.specs.Prelude.{◌≡◌, ℕ, ◌+◌, min, List, Option, Some, None, option_map}
use Rattle.dns_name.specs.Names.{Name, fold}
use Rattle.tsig_port.specs.Tsig.{TsigKey, mac_in, compose_len}
use Rattle.tsig_keys.specs.Keys.{HasNameAnd, own_key, map_key}
use Rattle.tsig_keys.specs.declared.algorithms.Algorithm.{Algorithm}
use Rattle.tsig_port.specs.Checked.{taken_message}
use Rattle.tsig_port.specs.ServerCheck.{Keys, Verdict, verdict, reply_to}
use Rattle.tsig_port.specs.ServerCheck.Verdict.{NoTsig, Accepted, Refused, BadTime}
use Rattle.xfr_services.specs.Items.{Sending, all_given, one_reply}
use Rattle.xfr_services.specs.Replying.{built}
use Rattle.xfr_services.specs.Requests.{with_metadata}
use Rattle.xfr_signing.specs.Signing.{Signer, signed_items}
use Rattle.xfr_services.specs.declared.requests.Request.{Request}
use Rattle.xfr_signing.specs.declared.signing.Signing.TheVariants.{First}

-- the request as it is handed on, where its signature was accepted: without its TSIG, with the key, and with octets reserved for one
abbrev pub accepted_request : {M T : Type 0} → Request M → TsigKey → T → Request T
accepted_request r key metadata = record {
  message = taken_message r.message;
  transport = r.transport;
  at = r.at;
  metadata = metadata;
  reserved = min (r.reserved + compose_len key) 65535;
}

-- a request as it was received
abbrev pub as_received : {M : Type 0} → Request M → List ℕ → Request M
as_received r message = record { message = message; transport = r.transport; at = r.at; metadata = r.metadata; reserved = r.reserved }

-- what signs the replies to a request
abbrev pub signer_for : {M : Type 0} → Request M → TsigKey → Signer
signer_for r key = record { key = key; request_mac = mac_in r.message; received = r.message; at = r.at }

-- what the next service sends to one who signed with a key, signed; the key is the store's of that name and algorithm
pub record SendsSigned {M K : Type 0} (the_key : K → TsigKey) (keys : Keys) (Next : Request (Option K) → Option (List Sending) → Type 0) (r : Request M) (key : TsigKey) (sent : Option (List Sending)) : Type 0 where
  pub known : Option K
  pub is_known : option_map the_key known ≡ keys (fold key.name) key.algorithm
  pub given : Option (List Sending)
  pub next : Next (accepted_request r key known) given
  pub signed : sent ≡ option_map (signed_items (signer_for r key) First None) given

-- the one reply to a request that was refused for this (RFC 8945, 5.2; BADTRUNC unsigned), and None where even the request's questions and
-- one TSIG pass 65,535 octets
abbrev pub refusal_sends : {M : Type 0} → Request M → Verdict → Option (List Sending)
refusal_sends r found = option_map (λ reply. all_given (one_reply reply)) (built (reply_to found r.message r.message r.at))

abbrev pub SendsBy : {M K : Type 0} → (K → TsigKey) → Keys → (Request (Option K) → Option (List Sending) → Type 0) → Request M → Option (List Sending) → Verdict → Type 0
SendsBy the_key keys Next r sent NoTsig = Next (with_metadata r None) sent
SendsBy the_key keys Next r sent (Accepted key) = SendsSigned the_key keys Next r key sent
SendsBy the_key keys Next r sent (Refused error) = sent ≡ refusal_sends r (Refused error)
SendsBy the_key keys Next r sent (BadTime key) = sent ≡ refusal_sends r (BadTime key)

-- unsigned requests are handed on, accepted ones too and their replies signed, and a refused one is answered with its error
abbrev pub SendsChecked : {M K : Type 0} → (K → TsigKey) → Keys → (Request (Option K) → Option (List Sending) → Type 0) → Request M → Option (List Sending) → Type 0
SendsChecked the_key keys Next r sent = SendsBy the_key keys Next r sent (verdict keys r.at r.message)

-- each key of a store has the name and the algorithm that it is found by, as every `KeyStore` says of those that it hands out
abbrev pub AreNamed : Keys → Type 0
AreNamed keys = (name : Name) (algorithm : Algorithm) (key : TsigKey) → keys name algorithm ≡ Some key → HasNameAnd key name algorithm

-- an accepted request is handed on with the key that accepted it
abbrev pub KeysGoOn : {K : Type 0} → (K → TsigKey) → Keys → Type 0
KeysGoOn the_key keys = AreNamed keys → (now : ℕ) (message : List ℕ) (key : TsigKey) (known : Option _) → verdict keys now message ≡ Accepted key
    → option_map the_key known ≡ keys (fold key.name) key.algorithm → option_map the_key known ≡ Some key

-- the stores of one key and of many are so
abbrev pub StoresAreNamed : Type 0
StoresAreNamed = ((key : TsigKey) → AreNamed (own_key key)) × ((entries : List ((Name × Algorithm) × TsigKey)) → AreNamed (map_key entries))
