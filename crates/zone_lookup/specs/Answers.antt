-- What a version lends for a question.
use Rattle.std.specs.Prelude.{◌≡◌, ℕ, Option, Some, None, IfSome, option_map, option_copied}
use Rattle.dns_name.specs.Names.{Name}
use Rattle.dns_numbers.specs.Codes.{type_ns, type_cname, type_ds}
use Rattle.zone_model.specs.Version.{Version}
use Rattle.zone_model.specs.Answer.{Answer}
use Rattle.zone_model.specs.Answer.Answer.{Referral as ReferralOf, Alias as AliasOf, Found as FoundOf, NoData as NoDataOf, NameError as NameErrorOf}
use Rattle.zone_values.specs.TypedSets.{TypedSet}
use Rattle.zone_values.specs.TypedEntries.{typed, untyped}
use Rattle.zone_lookup.specs.declared.content.Content.{Content}
use Rattle.zone_lookup.specs.declared.content.Content.TheVariants.{Referral, Alias, Found, NoData, NameError}

-- a version, and what it answers to a question
pub record AnsweredBy : Type 0 where
  pub version : Version
  pub answer : Answer

abbrev pub answered_by : Version → Answer → AnsweredBy
answered_by v a = record { version = v; answer = a }

-- the answer of the definitions that lent sets stand for
abbrev pub answer_of : Content → Answer
answer_of (Referral owner servers signer) = ReferralOf owner servers.now.contents (untyped (option_copied signer))
answer_of (Alias target) = AliasOf target.now.contents
answer_of (Found rtype found) = FoundOf rtype found.now.contents
answer_of NoData = NoDataOf
answer_of NameError = NameErrorOf

-- each lent set is of the type that its kind of answer has
abbrev pub HasItsTypes : Content → Type 0
HasItsTypes (Referral owner servers signer) = (servers.now.rtype ≡ type_ns) × IfSome signer (λ s. s.now.rtype ≡ type_ds)
HasItsTypes (Alias target) = target.now.rtype ≡ type_cname
HasItsTypes (Found rtype found) = found.now.rtype ≡ rtype
HasItsTypes NoData = Unit {0}
HasItsTypes NameError = Unit {0}

-- the set that answers with its type, and the type alone
abbrev pub set_found : Answer → Option TypedSet
set_found (ReferralOf owner servers signer) = None
set_found (AliasOf target) = Some (typed type_cname target)
set_found (FoundOf rtype found) = Some (typed rtype found)
set_found NoDataOf = None
set_found NameErrorOf = None

abbrev pub type_found : Answer → Option ℕ
type_found (ReferralOf owner servers signer) = None
type_found (AliasOf target) = Some type_cname
type_found (FoundOf rtype found) = Some rtype
type_found NoDataOf = None
type_found NameErrorOf = None

-- the name, the NS set and the DS set of a referral's cut
abbrev pub cut_of : Answer → Option Name
cut_of (ReferralOf owner servers signer) = Some owner
cut_of (AliasOf target) = None
cut_of (FoundOf rtype found) = None
cut_of NoDataOf = None
cut_of NameErrorOf = None

abbrev pub servers_of : Answer → Option TypedSet
servers_of (ReferralOf owner servers signer) = Some (typed type_ns servers)
servers_of (AliasOf target) = None
servers_of (FoundOf rtype found) = None
servers_of NoDataOf = None
servers_of NameErrorOf = None

abbrev pub signer_of : Answer → Option TypedSet
signer_of (ReferralOf owner servers signer) = option_map (typed type_ds) signer
signer_of (AliasOf target) = None
signer_of (FoundOf rtype found) = None
signer_of NoDataOf = None
signer_of NameErrorOf = None
