-- What is read of a transfer's checked messages: they are read until their text ends or a fault comes (RFC 5936, 2.2; RFC 1995, 4).
use Rattle.std.specs.Prelude.{ℕ, Bool, true, false, ◌&&◌, ◌||◌, not, ◌==◌, nat_le, if◌then◌else◌, List, [], ◌∷◌, ◌++◌, map, length, find, flat_map, Option, Some, None, is_some, unwrap_or}
use Rattle.std.specs.Option.{option_or}
use Rattle.dns_rdata.specs.Records.{Record}
use Rattle.dns_rdata.specs.Soa.{serial_of}
use Rattle.dns_numbers.specs.Codes.{type_ixfr, type_axfr}
use Rattle.zone_model.specs.Version.{Version}
use Rattle.zone_model.specs.Edits.{Refusal}
use Rattle.zone_model.specs.TransferText.{Mode, Axfr, Ixfr, Ending, is_soa, ending, read_text}
use Rattle.zone_model.specs.Spells.{Spelling, spelling}
use Rattle.dns_wire.specs.Wire.{Question, same_question}
use Rattle.xfr_model.specs.Messages.{ReadMessage}

-- why a message or a record of it isn't read
pub data Fault : Type 0 where
  OtherAnswer : Fault
  NotValid : Fault
  Malformed : Fault
  Unreadable : Fault
  AfterEnd : Fault
  Refused : (why : Refusal) → Fault

-- a message that answers something else: another id, or one question that isn't the request's (RFC 5936, 2.2.1)
abbrev pub is_other : ℕ → Question → ReadMessage → Bool
is_other id q m = not (m.header.id == id) || (length m.questions == 1 && not (list_has m.questions))
  where
    list_has : List Question → Bool
    list_has [] = false
    list_has (p ∷ more) = same_question q p

-- the head of a transfer message: a first one has one question, a later one at most one (RFC 5936, 2.2)
abbrev pub is_transfer_head : Bool → ReadMessage → Bool
is_transfer_head first m =
    m.header.qr && (m.header.opcode == 0) && not m.header.tc && (m.header.rcode == 0)
    && not (length m.answers == 0) && (m.authority == 0)
    && (if first then length m.questions == 1 else nat_le (length m.questions) 1)

-- a first message asks for a transfer, and begins with an SOA that can be read
abbrev pub asks_transfer : List Question → Bool
asks_transfer [] = false
asks_transfer (q ∷ more) = (q.qtype == type_axfr) || (q.qtype == type_ixfr)

abbrev pub first_record_fault : List (Option Record) → Option Fault
first_record_fault [] = None
first_record_fault (None ∷ more) = Some Malformed
first_record_fault (Some r ∷ more) = if is_soa r then None else Some NotValid

-- what refuses a message by itself, in this order
abbrev pub message_fault : Bool → ReadMessage → Option Fault
message_fault first m =
    if not (is_transfer_head first m) then Some NotValid
    else if not first then None
    else if not (asks_transfer m.questions) then Some Malformed
    else first_record_fault m.answers

-- what stands in a row of messages: records, and faults
pub data Item : Type 0 where
  Good : (found : Record) → Item
  Bad : (fault : Fault) → Item

abbrev pub record_item : Option Record → Item
record_item None = Bad Unreadable
record_item (Some r) = Good r

abbrev pub items_unless : List (Option Record) → Option Fault → List Item
items_unless answers None = map record_item answers
items_unless answers (Some f) = Bad f ∷ []

-- a message's items: its fault alone, or its answer records
abbrev pub items_of : (ReadMessage → Option Fault) → ReadMessage → List Item
items_of fault_of m = items_unless m.answers (fault_of m)

-- the records before the first fault, and that fault
abbrev pub good_records : List Item → List Record
good_records [] = []
good_records (Good r ∷ more) = r ∷ good_records more
good_records (Bad f ∷ more) = []

abbrev pub first_fault : List Item → Option Fault
first_fault [] = None
first_fault (Good r ∷ more) = first_fault more
first_fault (Bad f ∷ more) = Some f

-- the records joined over messages; only the first is tested as a first one
abbrev pub joined_items : (Bool → ReadMessage → Option Fault) → List ReadMessage → List Item
joined_items fault_of [] = []
joined_items fault_of (m ∷ more) = items_of (fault_of true) m ++ flat_map (items_of (fault_of false)) more

-- the end of the text that a list is
abbrev pub end_of : Mode → List Record → Option Ending
end_of mode [] = None
end_of mode (s ∷ more) = ending (read_text mode s more)

-- a list's prefixes, shortest first
abbrev pub prefixes : {X : Type 0} → List X → List (List X)
prefixes [] = [] ∷ []
prefixes (x ∷ xs) = [] ∷ map (λ p. x ∷ p) (prefixes xs)

-- the messages up to the one in which the text ends, all of them where it doesn't
abbrev pub messages_read : Mode → (Bool → ReadMessage → Option Fault) → List ReadMessage → List ReadMessage
messages_read mode fault_of ms = unwrap_or (find (λ p. is_some (end_of mode (good_records (joined_items fault_of p)))) (prefixes ms)) ms

-- what is read of some messages: the records, whether the text ended, and the fault in the messages themselves
pub record ReadText : Type 0 where
  pub records : List Record
  pub ended : Bool
  pub fault : Option Fault

-- a record after the end in its message is a fault
abbrev pub after_end : Option Ending → Option Fault
after_end None = None
after_end (Some end) = if length end.rest == 0 then None else Some AfterEnd

abbrev pub read_items : Mode → List Item → ReadText
read_items mode items =
    let records = good_records items in
    record { records = records; ended = is_some (end_of mode records); fault = option_or (after_end (end_of mode records)) (first_fault items) }

abbrev pub read_by : Mode → (Bool → ReadMessage → Option Fault) → List ReadMessage → ReadText
read_by mode fault_of ms = read_items mode (joined_items fault_of (messages_read mode fault_of ms))

-- what an interpreter reads of messages, and what a client does, which first tests that they answer its request
abbrev pub request_fault : ℕ → Question → Bool → ReadMessage → Option Fault
request_fault id q first m = if is_other id q m then Some OtherAnswer else message_fault first m

abbrev pub read : Mode → ℕ → Question → List ReadMessage → ReadText
read mode id q ms = read_by mode (request_fault id q) ms

-- what the messages read spell on a base version; a refused record comes before the faults after it
abbrev pub spelt : Mode → ℕ → Question → List ReadMessage → Version → Spelling
spelt mode id q ms base = spelling mode (read mode id q ms).records base

abbrev pub fault_of_all : Option Refusal → Option Fault → Option Fault
fault_of_all None f = f
fault_of_all (Some e) f = Some (Refused e)

abbrev pub fault : Mode → ℕ → Question → List ReadMessage → Version → Option Fault
fault mode id q ms base = fault_of_all (spelt mode id q ms base).fault (read mode id q ms).fault

-- the serial of the one SOA that a first message holds in answer to an incremental question (RFC 1995, 2 and 4)
abbrev pub lone_soa : List (Option Record) → Option ℕ
lone_soa (Some s ∷ []) = if is_soa s then Some (serial_of s.fields) else None
lone_soa _ = None

abbrev pub retry : Mode → (Bool → ReadMessage → Option Fault) → List ReadMessage → Option ℕ
retry Axfr fault_of ms = None
retry Ixfr fault_of [] = None
retry Ixfr fault_of (m ∷ more) = if is_some (fault_of true m) then None else lone_soa m.answers
