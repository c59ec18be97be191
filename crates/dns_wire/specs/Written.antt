-- What a message that was written parses to.
use Rattle.std.specs.Prelude.{flat_map, ℕ, ◌+◌, ◌<◌, ◌^◌, List, [], ◌∷◌, length, IsTrue}
use Rattle.std.specs.List.{AllByRecursion}
use Rattle.dns_name.specs.Names.{is_name, name_wire}
use Rattle.dns_rdata.specs.Records.{Record, record_wire, data_wire}
use Rattle.dns_wire.specs.Wire.{header_of, flags_word, Question, question_wire, Message}
use Rattle.dns_wire.specs.Parse.{Parsed}
use Rattle.dns_rdata.specs.Heads.{RawRecord}

-- a question and a record that have a wire form (RFC 1035, 4.1.2 and 3.2.1)
pub record IsQuestion (q : Question) : Type 0 where
  pub qname : IsTrue (is_name q.qname)
  pub qtype : q.qtype < 2 ^ 16
  pub qclass : q.qclass < 2 ^ 16

pub record IsRecord (r : Record) : Type 0 where
  pub owner : IsTrue (is_name r.owner)
  pub rtype : r.rtype < 2 ^ 16
  pub class : r.class < 2 ^ 16
  pub ttl : r.ttl < 2 ^ 32
  pub len : length (data_wire r.fields) < 2 ^ 16

-- a message that has one (RFC 1035, 4.1)
pub record IsMessage (m : Message) : Type 0 where
  pub id : m.header.id < 2 ^ 16
  pub flags : flags_word m.header < 2 ^ 16
  pub questions : AllByRecursion IsQuestion m.questions
  pub answers : AllByRecursion IsRecord m.answers
  pub authority : AllByRecursion IsRecord m.authority
  pub additional : AllByRecursion IsRecord m.additional
  pub qdcount : length m.questions < 2 ^ 16
  pub ancount : length m.answers < 2 ^ 16
  pub nscount : length m.authority < 2 ^ 16
  pub arcount : length m.additional < 2 ^ 16

-- the head of a record that stands at place p
abbrev pub head_at : ℕ → Record → RawRecord
head_at p r = record {
  start = p;
  owner = r.owner;
  rtype = r.rtype;
  class = r.class;
  ttl = r.ttl;
  rdata = p + length (name_wire r.owner) + 2 + 2 + 4 + 2;
  rdlength = length (data_wire r.fields);
}

-- the heads of records one after another from place p on, and the place after them
abbrev pub heads_from : ℕ → List Record → List RawRecord
heads_from p [] = []
heads_from p (r ∷ rs) = head_at p r ∷ heads_from (p + length (record_wire r)) rs

abbrev pub end_of_records : ℕ → List Record → ℕ
end_of_records p rs = p + length (flat_map record_wire rs)

-- what the message parses to
abbrev pub parsed_of : Message → Parsed
parsed_of m =
    let answers = 12 + length (flat_map question_wire m.questions) in
    let authority = end_of_records answers m.answers in
    let additional = end_of_records authority m.authority in
    record {
      header = header_of m.header.id (flags_word m.header);
      questions = m.questions;
      answers = heads_from answers m.answers;
      authority = heads_from authority m.authority;
      additional = heads_from additional m.additional;
    }
