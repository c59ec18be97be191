-- A reply has the records that are lent.
use Rattle.std.proofs.Common.{◌≡◌, ℕ, List, [], ◌∷◌, length, refl, ap, ◌∙◌, Option, Some, None, option_map}
use Rattle.std.specs.Option.{option_map_or}
use Rattle.dns_name.specs.Names.{Name}
use Rattle.dns_numbers.specs.Codes.{type_cname, type_soa}
use Rattle.dns_rdata.specs.Records.{Field}
use Rattle.dns_wire.specs.Wire.{Question}
use Rattle.zone_model.specs.Version.{Version, RecordSet, set_at}
use Rattle.zone_model.specs.Answer.{Answer, answer_section, authority_section, glue_section, records_of, records_of_option, first_only}
use Rattle.zone_model.specs.Answer.Answer.{Referral, Alias, Found, NoData, NameError}
use Rattle.zone_values.specs.TypedSets.{first_record}
use Rattle.zone_values.specs.TypedEntries.{typed}
use Rattle.zone_lookup.specs.Replies.{authority}
use Rattle.zone_lookup.specs.Sending.{answers_of, authority_of, authority_in, authority_records, content_records, required_of, discardable_of}
use Rattle.zone_lookup.specs.Answers.{answered_by}
use Rattle.zone_lookup.specs.Owned.{HasOneCname, alias_content, first_of_option, reply_of}

abbrev pub set_with : ℕ → List (List Field) → RecordSet
set_with ttl items = record { ttl = ttl; items = items }

-- the one record of an alias
pub one_alias : (q : Name) (class ttl : ℕ) (items : List (List Field)) → length items ≡ 1
    → content_records q class (alias_content (first_record (typed type_cname (set_with ttl items)))) ≡ records_of q type_cname class (set_with ttl items)
one_alias q class ttl [] e = absurd (cc e)
one_alias q class ttl (d ∷ []) e = refl
one_alias q class ttl (d ∷ d2 ∷ more) e = absurd (cc e)

pub answers_in : (q : Name) (v : Version) (a : Answer) → HasOneCname a → content_records q v.class (reply_of (answered_by v a)).content ≡ answer_section v q a
answers_in q v (Referral owner servers signer) h = refl
answers_in q v (Alias target) h = one_alias q v.class target.ttl target.items h
answers_in q v (Found rtype found) h = refl
answers_in q v NoData h = refl
answers_in q v NameError h = refl

pub answers_are : (v : Version) (q : Question) (a : Answer) → q.qclass ≡ v.class → HasOneCname a → answers_of q (reply_of (answered_by v a)) ≡ answer_section v q.qname a
answers_are v q a e h = ap (λ class. content_records q.qname class (reply_of (answered_by v a)).content) e ∙ answers_in q.qname v a h

-- the first SOA record, where there is a set with one
pub soa_in_set : (apex : Name) (class ttl : ℕ) (items : List (List Field))
    → option_map_or (authority_records class) (option_map (λ soa. authority apex (Some soa) None None) (first_record (typed type_soa (set_with ttl items)))) []
    ≡ records_of apex type_soa class (first_only (set_with ttl items))
soa_in_set apex class ttl [] = refl
soa_in_set apex class ttl (d ∷ more) = refl

pub soa_in : (apex : Name) (class : ℕ) (found : Option RecordSet)
    → option_map_or (authority_records class) (option_map (λ soa. authority apex (Some soa) None None) (first_of_option type_soa found)) []
    ≡ records_of_option apex type_soa class (option_map first_only found)
soa_in apex class None = refl
soa_in apex class (Some s) = soa_in_set apex class s.ttl s.items

pub authority_is : (v : Version) (a : Answer) → authority_in v.class (reply_of (answered_by v a)) ≡ authority_section v a
authority_is v (Referral owner servers None) = refl
authority_is v (Referral owner servers (Some signer)) = refl
authority_is v (Alias target) = refl
authority_is v (Found rtype found) = refl
authority_is v NoData = soa_in v.apex v.class (set_at v v.apex type_soa)
authority_is v NameError = soa_in v.apex v.class (set_at v v.apex type_soa)

pub authority_are : (v : Version) (q : Question) (a : Answer) → q.qclass ≡ v.class → authority_of q (reply_of (answered_by v a)) ≡ authority_section v a
authority_are v q a e = ap (λ class. authority_in class (reply_of (answered_by v a))) e ∙ authority_is v a

pub required_are : (v : Version) (a : Answer) → required_of (reply_of (answered_by v a)) ≡ glue_section v a
required_are v (Referral owner servers signer) = refl
required_are v (Alias target) = refl
required_are v (Found rtype found) = refl
required_are v NoData = refl
required_are v NameError = refl

pub discardable_are : (v : Version) (a : Answer) → discardable_of (reply_of (answered_by v a)) ≡ []
discardable_are v (Referral owner servers signer) = refl
discardable_are v (Alias target) = refl
discardable_are v (Found rtype found) = refl
discardable_are v NoData = refl
discardable_are v NameError = refl
