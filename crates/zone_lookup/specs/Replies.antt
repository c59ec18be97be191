-- Answers that own their records (RFC 1034, 4.3.2).
use Rattle.std.specs.Prelude.{ℕ, Bool, false, List, Option, Some, None}
use Rattle.dns_name.specs.Names.{Name}
use Rattle.dns_rdata.specs.Records.{Record}
use Rattle.zone_values.specs.TypedSets.{TypedRecord, TypedSet, first_record}
use Rattle.zone_lookup.specs.declared.answer_content.AnswerContent.{AnswerContent}
use Rattle.zone_lookup.specs.declared.answer_content.AnswerContent.TheVariants.{Data, Cname, NoData}

-- records for the additional section: those that an answer needs, and those that may be left out
pub record Additional : Type 0 where
  pub required : List Record
  pub discardable : List Record

-- records for the authority section, at one owner
pub record Authority : Type 0 where
  pub owner : Name
  pub soa : Option TypedRecord
  pub ns : Option TypedSet
  pub ds : Option TypedSet

pub record Reply : Type 0 where
  pub rcode : ℕ
  pub content : AnswerContent
  pub additional : Option Additional
  pub authority : Option Authority
  pub authoritative : Bool

abbrev pub additional : List Record → List Record → Additional
additional required discardable = record { required = required; discardable = discardable }

abbrev pub authority : Name → Option TypedRecord → Option TypedSet → Option TypedSet → Authority
authority owner soa ns ds = record { owner = owner; soa = soa; ns = ns; ds = ds }

-- an answer without records
abbrev pub bare_reply : ℕ → Reply
bare_reply rcode = record { rcode = rcode; content = NoData; additional = None; authority = None; authoritative = false }

-- an answer with authority records alone
abbrev pub authority_reply : ℕ → Authority → Reply
authority_reply rcode a = record (bare_reply rcode) { authority = Some a }

-- the first record of the content
abbrev pub first_of : AnswerContent → Option TypedRecord
first_of (Data s) = first_record s
first_of (Cname r) = Some r
first_of NoData = None
