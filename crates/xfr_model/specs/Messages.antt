-- Messages as a transfer reads them (RFC 1035, 4.1).
use Rattle.std.specs.Prelude.{◌≡◌, ℕ, List, ◌++◌, length, map, Option, Some, option_map, IsTrue}
use Rattle.std.specs.List.{AllByRecursion}
use Rattle.dns_numbers.specs.Codes.{type_ixfr, type_axfr}
use Rattle.dns_rdata.specs.Records.{Record, is_data}
use Rattle.dns_wire.specs.Wire.{Header, header_of, flags_word, Question, Message, message_wire}
use Rattle.dns_wire.specs.Parse.{Parsed, parsed}
use Rattle.dns_rdata.specs.Heads.{readable}
use Rattle.dns_wire.specs.Written.{IsMessage}
use Rattle.zone_model.specs.TransferText.{Mode, Axfr, Ixfr}

-- a message: an answer record is None where its data can't be read; of the authority section only the count
pub record ReadMessage : Type 0 where
  pub header : Header
  pub questions : List Question
  pub answers : List (Option Record)
  pub authority : ℕ

-- what octets that parse say, the data of the answer records read in them
abbrev pub as_read : List ℕ → Parsed → ReadMessage
as_read octets p = record { header = p.header; questions = p.questions; answers = map (readable octets) p.answers; authority = length p.authority }

-- the message that octets spell, if they spell one
abbrev pub message_of : List ℕ → Option ReadMessage
message_of octets = option_map (as_read octets) (parsed octets)

-- the type that a question of a mode has (RFC 5936, 2.1; RFC 1995, 3)
abbrev pub type_of : Mode → ℕ
type_of Axfr = type_axfr
type_of Ixfr = type_ixfr

-- what a built message says to a transfer
abbrev pub read_of : Message → ReadMessage
read_of m = record { header = header_of m.header.id (flags_word m.header); questions = m.questions; answers = map Some m.answers; authority = length m.authority }

-- records whose data have the pieces of their type
abbrev pub HaveData : List Record → Type 0
HaveData rs = AllByRecursion (λ r. IsTrue (is_data r.rtype r.fields)) rs

-- the law of built messages: the octets of one, whatever follows them, say what it was built of
abbrev pub BuiltIsRead : Type 0
BuiltIsRead = (m : Message) (after : List ℕ) → IsMessage m → HaveData m.answers → message_of (message_wire m ++ after) ≡ Some (read_of m)
