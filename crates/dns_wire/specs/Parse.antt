-- What received octets parse to (RFC 1035, 4.1).
use Rattle.std.specs.Prelude.{Bool, false, ℕ, zero, suc, ◌==◌, List, [], ◌∷◌, length, filter_map, Option, Some, None, option_map, if◌then◌else◌}
use Rattle.std.specs.Option.{option_map_or}
use Rattle.dns_name.specs.Octets.{◌>>=◌, u16_at}
use Rattle.dns_name.specs.Compression.{name_at}
use Rattle.dns_rdata.specs.Heads.{RawRecord, raw_record_at}
use Rattle.dns_wire.specs.Wire.{Header, header_of, Counts, Question, header_number, qdcount_in, ancount_in, nscount_in, arcount_in}

-- the header at the front
abbrev pub header_at : List ℕ → ℕ → Option (Header × ℕ)
header_at message p = do
  (id, p) ← u16_at message p
  (word, p) ← u16_at message p
  Some (header_of id word, p)

-- the counts after it
abbrev pub counts_at : List ℕ → ℕ → Option (Counts × ℕ)
counts_at message p = do
  (qdcount, p) ← u16_at message p
  (ancount, p) ← u16_at message p
  (nscount, p) ← u16_at message p
  (arcount, p) ← u16_at message p
  Some (record { qdcount = qdcount; ancount = ancount; nscount = nscount; arcount = arcount }, p)

-- the question at a place (RFC 1035, 4.1.2)
unfoldable pub question_at : List ℕ → ℕ → Option (Question × ℕ)
question_at message p = do
  (qname, p) ← name_at message p
  (qtype, p) ← u16_at message p
  (qclass, p) ← u16_at message p
  Some (record { qname = qname; qtype = qtype; qclass = qclass }, p)

-- n items one after another from a place on, and the place after them
unfoldable pub items_at : {X : Type 0} → (ℕ → Option (X × ℕ)) → ℕ → ℕ → Option (List X × ℕ)
items_at item zero p = Some ([], p)
items_at item (suc n) p = do
  (first, p) ← item p
  (others, p) ← items_at item n p
  Some (first ∷ others, p)

-- what received octets parse to: header and items of the four sections; octets after the last counted item aren't read
pub record Parsed : Type 0 where
  pub header : Header
  pub questions : List Question
  pub answers : List RawRecord
  pub authority : List RawRecord
  pub additional : List RawRecord

-- the message that the octets spell, where each counted item is one of the grammar (RFC 1035, 4.1)
unfoldable pub parsed : List ℕ → Option Parsed
parsed message = do
  (header, p) ← header_at message 0
  (counts, p) ← counts_at message p
  (questions, p) ← items_at (question_at message) counts.qdcount p
  (answers, p) ← items_at (raw_record_at message) counts.ancount p
  (authority, p) ← items_at (raw_record_at message) counts.nscount p
  (additional, p) ← items_at (raw_record_at message) counts.arcount p
  Some (record { header = header; questions = questions; answers = answers; authority = authority; additional = additional })

-- ---- sections one by one

-- the item that stands at a place, before the readings from the place after it; an error is the last answer
abbrev pub reading_then : {X : Type 0} → (ℕ → List (Option X)) → Option (X × ℕ) → List (Option X)
reading_then rest None = None ∷ []
reading_then rest (Some (x, after)) = Some x ∷ rest after

-- what an iterator over n items from place p answers: the items, up to the first place where none stands, and there an error
unfoldable pub readings : {X : Type 0} → (ℕ → Option (X × ℕ)) → ℕ → ℕ → List (Option X)
readings item zero p = []
readings item (suc n) p = reading_then (readings item n) (item p)

-- the place where the items of a kind end that follow place p
abbrev pub after_items : {X : Type 0} → (ℕ → Option (X × ℕ)) → ℕ → ℕ → Option ℕ
after_items item n p = option_map (λ r. r.1) (items_at item n p)

-- where the answer, authority and additional sections of received octets begin, if all counted items before them parse
abbrev pub answers_start : List ℕ → Option ℕ
answers_start message = after_items (question_at message) (qdcount_in message) 12

abbrev pub authority_start : List ℕ → Option ℕ
authority_start message = answers_start message >>= after_items (raw_record_at message) (ancount_in message)

abbrev pub additional_start : List ℕ → Option ℕ
additional_start message = authority_start message >>= after_items (raw_record_at message) (nscount_in message)

-- the place after the last counted item, if all counted items parse
abbrev pub message_end : List ℕ → Option ℕ
message_end message = additional_start message >>= after_items (raw_record_at message) (arcount_in message)

-- whether the octets are a message that parses, with nothing after its last counted item
abbrev pub is_whole : List ℕ → Bool
is_whole message = option_map_or (λ end. end == length message) (message_end message) false

-- the readings of a section that begins at a place and has the count at place k of the header
abbrev pub section_readings : List ℕ → ℕ → Option ℕ → List (Option RawRecord)
section_readings message k None = []
section_readings message k (Some p) = readings (raw_record_at message) (header_number k message) p

abbrev pub answer_readings : List ℕ → List (Option RawRecord)
answer_readings message = section_readings message 6 (answers_start message)

abbrev pub authority_readings : List ℕ → List (Option RawRecord)
authority_readings message = section_readings message 8 (authority_start message)

abbrev pub additional_readings : List ℕ → List (Option RawRecord)
additional_readings message = section_readings message 10 (additional_start message)

-- what an iterator over a section shows: the message, and the readings that are left
pub record SectionIn : Type 0 where
  pub message : List ℕ
  pub left : List (Option RawRecord)

-- the questions in front of the first one that can't be read (RFC 1035, 4.1.2)
abbrev pub questions_in : List ℕ → List Question
questions_in message = filter_map (λ q. q) (readings (question_at message) (qdcount_in message) 12)

-- the one question, where QDCOUNT is 1 and it parses (RFC 1035, 4.1.2)
abbrev pub sole_question_in : List ℕ → Option Question
sole_question_in message = if qdcount_in message == 1 then option_map (λ q. q.0) (question_at message 12) else None

-- the type of the first question, where there is one that parses (RFC 1035, 4.1.2)
abbrev pub qtype_in : List ℕ → Option ℕ
qtype_in message = if qdcount_in message == 0 then None else option_map (λ q. q.0.qtype) (question_at message 12)
