-- The message that says an answer (RFC 1035, 4.1; RFC 2181, 9).
use Rattle.std.specs.Prelude.{◌≡◌, ℕ, ◌==◌, Bool, true, false, List, [], ◌∷◌, ◌++◌, find, Option, Some, None, unwrap_or, option_map, Result, Ok, Err, not, if◌then◌else◌}
use Rattle.std.specs.Option.{option_map_or}
use Rattle.dns_numbers.specs.Codes.{formerr}
use Rattle.dns_name.specs.Names.{Name}
use Rattle.dns_rdata.specs.Records.{Record}
use Rattle.dns_wire.specs.Wire.{Building, Header, Question, Message, header_in, qdcount_in, message_wire, fits}
use Rattle.dns_wire.specs.Parse.{questions_in, sole_question_in}
use Rattle.dns_wire.specs.Reply.{answer_header, answer_with, error_answer}
use Rattle.dns_wire.specs.Builds.{building}
use Rattle.dns_wire.specs.declared.builder.PushError.{PushError}
use Rattle.dns_wire.specs.declared.builder.PushError.TheVariants.{ShortBuf, CountOverflow, Memory}
use Rattle.zone_model.specs.Answer.{records_of}
use Rattle.zone_values.specs.TypedSets.{TypedRecord, TypedSet}
use Rattle.zone_lookup.specs.Replies.{Reply, Authority, Additional}
use Rattle.zone_lookup.specs.declared.answer_content.AnswerContent.{AnswerContent}
use Rattle.zone_lookup.specs.declared.answer_content.AnswerContent.TheVariants.{Data, Cname, NoData}
use Rattle.zone_lookup.specs.declared.sending.Extent.{Extent}

-- ---- the records of an answer

-- a record and the records of a set, at an owner
abbrev pub record_at : Name → ℕ → TypedRecord → Record
record_at owner class r = record { owner = owner; rtype = r.rtype; class = class; ttl = r.ttl; fields = r.fields }

abbrev pub set_at_name : Name → ℕ → TypedSet → List Record
set_at_name owner class s = records_of owner s.rtype class s.contents

-- the records of the content, at the name and in the class that were asked for
abbrev pub content_records : Name → ℕ → AnswerContent → List Record
content_records owner class (Data s) = set_at_name owner class s
content_records owner class (Cname r) = record_at owner class r ∷ []
content_records owner class NoData = []

abbrev pub soa_records : ℕ → Authority → List Record
soa_records class a = option_map_or (λ r. record_at a.owner class r ∷ []) a.soa []

abbrev pub ns_records : ℕ → Authority → List Record
ns_records class a = option_map_or (set_at_name a.owner class) a.ns []

abbrev pub ds_records : ℕ → Authority → List Record
ds_records class a = option_map_or (set_at_name a.owner class) a.ds []

-- SOA, NS and DS, at their owner
abbrev pub authority_records : ℕ → Authority → List Record
authority_records class a = soa_records class a ++ (ns_records class a ++ ds_records class a)

-- the answer section, the authority section, and the two parts of the additional section (RFC 1035, 4.1)
abbrev pub answers_of : Question → Reply → List Record
answers_of q a = content_records q.qname q.qclass a.content

abbrev pub authority_in : ℕ → Reply → List Record
authority_in class a = option_map_or (authority_records class) a.authority []

abbrev pub authority_of : Question → Reply → List Record
authority_of q a = authority_in q.qclass a

abbrev pub required_of : Reply → List Record
required_of a = option_map_or (λ (x : Additional). x.required) a.additional []

abbrev pub discardable_of : Reply → List Record
discardable_of a = option_map_or (λ (x : Additional). x.discardable) a.additional []

-- ---- the message

-- id, opcode and RD of the request, QR, the answer's rcode and AA; TC where records that the answer needs are left out (RFC 1035, 4.1.1; RFC 2181, 9)
abbrev pub reply_header : List ℕ → Reply → Bool → Header
reply_header request a cut = record (answer_header (header_in request) a.rcode) { aa = a.authoritative; tc = cut }

-- the message with these sections after the request's question
abbrev pub reply_with : List ℕ → Reply → Bool → List Record → List Record → List Record → Message
reply_with request a cut answers authority additional = record {
  header = reply_header request a cut;
  questions = questions_in request;
  answers = answers;
  authority = authority;
  additional = additional;
}

-- the messages that leave out records that the answer needs, and say so, fullest first: without the additional section, without the authority
-- section too, and with the question alone (RFC 2181, 9)
abbrev pub cut_replies : List ℕ → Reply → Question → List Message
cut_replies request a q =
    reply_with request a true (answers_of q a) (authority_of q a) []
    ∷ reply_with request a true (answers_of q a) [] []
    ∷ reply_with request a true [] [] []
    ∷ []

-- the message with all records, and that without the additional records that the answer may do without
abbrev pub whole_reply : List ℕ → Reply → Question → Message
whole_reply request a q = reply_with request a false (answers_of q a) (authority_of q a) (required_of a ++ discardable_of a)

abbrev pub needed_reply : List ℕ → Reply → Question → Message
needed_reply request a q = reply_with request a false (answers_of q a) (authority_of q a) (required_of a)

-- the messages that say an answer, fullest first: whole, with what it needs, and those that are cut (RFC 2181, 9)
abbrev pub replies_to : List ℕ → Reply → Question → List Message
replies_to request a q = whole_reply request a q ∷ needed_reply request a q ∷ cut_replies request a q

-- the parts of an answer that a reply has, section by section; TC says where one that the answer needs is missing
abbrev pub additional_to : Reply → Extent → List Record
additional_to a e = (if e.required then required_of a else []) ++ (if e.discardable then discardable_of a else [])

abbrev pub reply_to_extent : List ℕ → Reply → Question → Extent → Message
reply_to_extent request a q e =
    reply_with request a (not e.required) (if e.answers then answers_of q a else []) (if e.authority then authority_of q a else []) (additional_to a e)

-- the first of these that is within the limit
abbrev pub first_within : ℕ → List Message → Option Message
first_within limit messages = find (λ m. fits limit (message_wire m)) messages

-- the request has no one question: the rcode NOTIMP (RFC 1035, 4.1.1)
abbrev pub notimp : ℕ
notimp = 4

-- NOTIMP where QDCOUNT isn't 1, else FORMERR for a question that can't be read (RFC 1035, 4.1.1)
abbrev pub refusal : List ℕ → ℕ
refusal request = if qdcount_in request == 1 then formerr else notimp

-- the first of these messages that is within the limit, and a header alone where none is
abbrev pub first_or_header : ℕ → List ℕ → ℕ → List Message → Message
first_or_header limit request rcode messages = unwrap_or (first_within limit messages) (answer_with request rcode [])

-- the reply to a request without one question that can be read
abbrev pub refusal_message : ℕ → List ℕ → Message
refusal_message limit request = first_or_header limit request (refusal request) (error_answer limit request (refusal request) ∷ [])

-- the reply to a request whose one question is this, if there is one
abbrev pub reply_for : ℕ → List ℕ → Reply → Option Question → Message
reply_for limit request a None = refusal_message limit request
reply_for limit request a (Some q) = first_or_header limit request a.rcode (replies_to request a q)

-- the message that says an answer to a request in at most so many octets
abbrev pub reply_message : ℕ → List ℕ → Reply → Message
reply_message limit request a = reply_for limit request a (sole_question_in request)

-- ---- what calls answer that write it

-- what is built so far is this message, within its limit
abbrev pub Stands : Message → Building → Type 0
Stands m b = (fits b.limit (message_wire m) ≡ true) × (b.octets ≡ message_wire m)

-- One case for each answer of a call that adds records: the message with them, where it is within the limit; else ShortBuf, or Memory, which may
-- hide that: they are added one by one.
abbrev pub Reaches : {A : Type 0} → Message → Building → Result A PushError → Building → Type 0
Reaches m old (Ok a) new = Stands m new × (new.limit ≡ old.limit)
Reaches m old (Err ShortBuf) new = fits old.limit (message_wire m) ≡ false
Reaches m old (Err CountOverflow) new = ⊥
Reaches m old (Err Memory) new = Unit {0}

-- what trying to build a message gives: built where it is within the limit, else None
abbrev pub Tried : List ℕ → ℕ → Option Building → Type 0
Tried octets limit (Some b) = (fits limit octets ≡ true) × (b ≡ building octets limit)
Tried octets limit None = fits limit octets ≡ false

-- the same of a call, which may want memory: that may hide that the message isn't within the limit, but not that what it begins with isn't
abbrev pub Tries : {E : Type 0} → List ℕ → List ℕ → ℕ → Result (Option Building) E → Type 0
Tries front octets limit (Ok found) = Tried octets limit found
Tries front octets limit (Err e) = fits limit front ≡ true

-- whether the message with the question alone is within the limit: then one that says the answer is
abbrev pub QuestionFits : ℕ → List ℕ → Reply → Type 0
QuestionFits limit request a = fits limit (message_wire (reply_with request a true [] [] [])) ≡ true

-- the first message within the limit, built
abbrev pub built_first : ℕ → List Message → Option Building
built_first limit messages = option_map (λ m. building (message_wire m) limit) (first_within limit messages)
