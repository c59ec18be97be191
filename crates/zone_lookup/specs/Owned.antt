-- The answer of a version as a reply that owns its records (RFC 1034, 4.3.2).
use Rattle.std.specs.Prelude.{◌≡◌, ℕ, [], length, Option, Some, None, option_map}
use Rattle.dns_numbers.specs.Codes.{type_ns, type_cname, type_soa, type_ds}
use Rattle.zone_model.specs.Version.{Version, RecordSet, set_at}
use Rattle.zone_model.specs.Answer.{Answer, rcode_of, is_authoritative, glue_section}
use Rattle.zone_model.specs.Answer.Answer.{Referral, Alias, Found, NoData, NameError}
use Rattle.zone_values.specs.TypedSets.{TypedRecord, first_record}
use Rattle.zone_values.specs.TypedEntries.{typed}
use Rattle.zone_lookup.specs.Replies.{Reply, Authority, Additional, authority, additional}
use Rattle.zone_lookup.specs.declared.answer_content.AnswerContent.{AnswerContent}
use Rattle.zone_lookup.specs.declared.answer_content.AnswerContent.TheVariants.{Data, Cname, NoData as NoContent}
use Rattle.zone_lookup.specs.Answers.{AnsweredBy}

-- a CNAME record, if there is one
abbrev pub alias_content : Option TypedRecord → AnswerContent
alias_content (Some r) = Cname r
alias_content None = NoContent

-- what is said of the name: the first record of an alias, or the set that was found (RFC 2181, 10.1)
abbrev pub content_of : Answer → AnswerContent
content_of (Referral owner servers signer) = NoContent
content_of (Alias target) = alias_content (first_record (typed type_cname target))
content_of (Found rtype found) = Data (typed rtype found)
content_of NoData = NoContent
content_of NameError = NoContent

-- the first record of a set of this type, if there is one
abbrev pub first_of_option : ℕ → Option RecordSet → Option TypedRecord
first_of_option rtype None = None
first_of_option rtype (Some s) = first_record (typed rtype s)

-- the first SOA record of the apex, if there is one
abbrev pub first_apex_soa : Version → Option TypedRecord
first_apex_soa v = first_of_option type_soa (set_at v v.apex type_soa)

-- an SOA record at the apex alone, if there is one (RFC 2308, 3)
abbrev pub soa_authority : Version → Option Authority
soa_authority v = option_map (λ soa. authority v.apex (Some soa) None None) (first_apex_soa v)

-- NS and DS of a referral at its owner, the SOA of a negative answer (RFC 1034, 4.3.2; RFC 4035, 3.1.4.1; RFC 2308, 3)
abbrev pub authority_for : Version → Answer → Option Authority
authority_for v (Referral owner servers signer) = Some (authority owner None (Some (typed type_ns servers)) (option_map (typed type_ds) signer))
authority_for v (Alias target) = None
authority_for v (Found rtype found) = None
authority_for v NoData = soa_authority v
authority_for v NameError = soa_authority v

-- the glue of a referral, which the answer needs (RFC 1034, 4.2.1; RFC 9471, 3.1)
abbrev pub additional_for : Version → Answer → Option Additional
additional_for v (Referral owner servers signer) = Some (additional (glue_section v (Referral owner servers signer)) [])
additional_for v (Alias target) = None
additional_for v (Found rtype found) = None
additional_for v NoData = None
additional_for v NameError = None

-- the reply that says an answer of a version
abbrev pub reply_of : AnsweredBy → Reply
reply_of a = record {
  rcode = rcode_of a.answer;
  content = content_of a.answer;
  additional = additional_for a.version a.answer;
  authority = authority_for a.version a.answer;
  authoritative = is_authoritative a.answer;
}

-- an alias has exactly one record, as in each valid version (RFC 2181, 10.1)
abbrev pub HasOneCname : Answer → Type 0
HasOneCname (Referral owner servers signer) = Unit {0}
HasOneCname (Alias target) = length target.items ≡ 1
HasOneCname (Found rtype found) = Unit {0}
HasOneCname NoData = Unit {0}
HasOneCname NameError = Unit {0}
