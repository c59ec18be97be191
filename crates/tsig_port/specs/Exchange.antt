-- One exchange: what the server signs of a built message is taken by the client (RFC 8945, 5.3 and 5.4).
use Rattle.std.specs.Prelude.{◌≡◌, ◌≤◌, ◌<◌, ◌^◌, ℕ, List, [], ◌∷◌, ◌++◌, map, Some, None}
use Rattle.std.specs.Int.{abs_diff}
use Rattle.std.specs.List.{last_or}
use Rattle.dns_rdata.specs.Records.{record_wire}
use Rattle.dns_wire.specs.Wire.{Message, message_wire}
use Rattle.dns_wire.specs.Parse.{parsed}
use Rattle.dns_wire.specs.Written.{parsed_of}
use Rattle.tsig_port.specs.Tsig.{TsigKey, Tsig, tsig_record, mac_in, answer_tsig, signed_answer}
use Rattle.tsig_port.specs.Checked.{answer_fault, taken_message}
use Rattle.tsig_port.specs.Signing.{IsKey, CanSign}

-- the client has taken the answers that the server has signed with these MACs
abbrev pub IsInStep : List (List ℕ) → List (List ℕ) → Type 0
IsInStep taken macs = macs ≡ map mac_in taken

-- the TSIG of the server's next answer, after answers with these MACs
abbrev pub next_tsig : TsigKey → List ℕ → List (List ℕ) → Message → ℕ → ℕ → Tsig
next_tsig key request macs m at fudge = answer_tsig key (mac_in request) (last_or None macs) (message_wire m) at fudge

-- that answer, as it is sent
abbrev pub next_answer : TsigKey → List ℕ → List (List ℕ) → Message → ℕ → ℕ → List ℕ
next_answer key request macs m at fudge = signed_answer key (mac_in request) (last_or None macs) (message_wire m) at fudge

-- what a server and a client of one key meet: the answer is a built one, signed at a moment that is within the fudge of the client's
pub record IsExchange (key : TsigKey) (m : Message) (at now fudge : ℕ) : Type 0 where
  pub is_key : IsKey key
  pub can_sign : CanSign key m
  pub early : at < 2 ^ 48
  pub small : fudge < 2 ^ 16
  pub near : abs_diff at now ≤ fudge

-- the client accepts the answer
abbrev pub AnswerIsAccepted : Type 0
AnswerIsAccepted = (key : TsigKey) (request : List ℕ) (taken macs : List (List ℕ)) (m : Message) (at now fudge : ℕ) → IsExchange key m at now fudge → IsInStep taken macs
    → answer_fault key (mac_in request) now taken (next_answer key request macs m at fudge) ≡ None

-- which then has the header, the question and the records that it had before it was signed
abbrev pub AnswerIsKept : Type 0
AnswerIsKept = (key : TsigKey) (request : List ℕ) (macs : List (List ℕ)) (m : Message) (at now fudge : ℕ) → IsExchange key m at now fudge
    → parsed (taken_message (next_answer key request macs m at fudge)) ≡ Some (parsed_of m)

-- its octets are those from before it was signed, and the TSIG after the last counted item, where it isn't read
abbrev pub AnswerKeepsOctets : Type 0
AnswerKeepsOctets = (key : TsigKey) (request : List ℕ) (macs : List (List ℕ)) (m : Message) (at now fudge : ℕ) → IsExchange key m at now fudge
    → taken_message (next_answer key request macs m at fudge) ≡ message_wire m ++ record_wire (tsig_record key.name (next_tsig key request macs m at fudge))

-- and the two stay in step
abbrev pub StaysInStep : Type 0
StaysInStep = (key : TsigKey) (request : List ℕ) (taken macs : List (List ℕ)) (m : Message) (at now fudge : ℕ) → IsExchange key m at now fudge → IsInStep taken macs
    → IsInStep (taken ++ next_answer key request macs m at fudge ∷ []) (macs ++ (next_tsig key request macs m at fudge).mac ∷ [])
