-- One key of both sides, each of which has lengths and a spelling of its own (RFC 8945, 1.2, 5.2.1 and 5.2.2.1).
use Rattle.std.specs.Prelude.{◌≡◌, ◌<◌, ◌≤◌, ◌^◌, ℕ, List, map, IsTrue, Some, None}
use Rattle.std.specs.Int.{abs_diff}
use Rattle.std.specs.List.{AllByRecursion}
use Rattle.dns_name.specs.Names.{fold, is_name, same_name}
use Rattle.dns_wire.specs.Wire.{Message, message_wire}
use Rattle.tsig_port.specs.Tsig.{TsigKey, is_mac_len, mac_in, signed_request, signed_answers}
use Rattle.tsig_port.specs.Signing.{CanSign}
use Rattle.tsig_port.specs.Checked.{checked, check_fault}
use Rattle.tsig_port.specs.ServerCheck.{Keys, verdict}
use Rattle.tsig_port.specs.ServerCheck.Verdict.{Accepted}

-- a key to sign with: a name, and MACs of a length that its algorithm allows (RFC 8945, 5.2.2.1)
pub record IsSigner (key : TsigKey) : Type 0 where
  pub name : IsTrue (is_name key.name)
  pub signing : IsTrue (is_mac_len key.algorithm key.signing_len)

-- the keys of both sides are one: one name, in any case, one algorithm and one secret; each side's MACs are as long as the other takes them
pub record AreOneKey (client server : TsigKey) : Type 0 where
  pub name : IsTrue (same_name client.name server.name)
  pub algorithm : client.algorithm ≡ server.algorithm
  pub secret : client.secret ≡ server.secret
  pub client_taken : server.min_mac_len ≤ client.signing_len
  pub server_taken : client.min_mac_len ≤ server.signing_len

-- a server that has its key under the client's name and algorithm accepts the client's request, by its own key (RFC 8945, 5.2)
abbrev pub RequestsAreAccepted : Type 0
RequestsAreAccepted = (client server : TsigKey) (keys : Keys) (m : Message) (at now fudge : ℕ) → IsSigner client → AreOneKey client server
    → at < 2 ^ 48 → fudge < 2 ^ 16 → abs_diff at now ≤ fudge → CanSign client m → keys (fold client.name) client.algorithm ≡ Some server
    → verdict keys now (signed_request client (message_wire m) at fudge) ≡ Accepted server

-- the client takes all answers that the server signs in sequence (RFC 8945, 5.3 and 5.4)
abbrev pub AnswersAreChecked : Type 0
AnswersAreChecked = (client server : TsigKey) (request : List ℕ) (messages : List Message) (at now fudge : ℕ) → IsSigner server → AreOneKey client server
    → at < 2 ^ 48 → fudge < 2 ^ 16 → abs_diff at now ≤ fudge → AllByRecursion (CanSign server) messages
    → checked client request now (signed_answers server (mac_in request) at fudge (map message_wire messages))
    ≡ signed_answers server (mac_in request) at fudge (map message_wire messages)

-- .. and finds no fault in them
abbrev pub AnswersAreFaultless : Type 0
AnswersAreFaultless = (client server : TsigKey) (request : List ℕ) (messages : List Message) (at now fudge : ℕ) → IsSigner server → AreOneKey client server
    → at < 2 ^ 48 → fudge < 2 ^ 16 → abs_diff at now ≤ fudge → AllByRecursion (CanSign server) messages
    → check_fault client request now (signed_answers server (mac_in request) at fudge (map message_wire messages)) ≡ None
