-- What a provider offers, as its calls answer it.
use Rattle.std.specs.Prelude.{◌≡◌, ℕ, Bool, true, false, ◌&&◌, ◌==◌, if◌then◌else◌, List, [], map, Option, Some, None, option_map, unwrap_or, Result, Ok, Err, IsOk}
use Rattle.dns_name.specs.Names.{Name, same_name}
use Rattle.dns_wire.specs.Wire.{Question}
use Rattle.tsig_port.specs.Tsig.{TsigKey}
use Rattle.tsig_keys.specs.declared.algorithms.Algorithm.{Algorithm}
use Rattle.tsig_keys.specs.declared.algorithms.Algorithm.TheVariants.{Sha1, Sha256, Sha384, Sha512}
use Rattle.zone_model.specs.Version.{Version}
use Rattle.zone_model.specs.Zones.{Zones, find_zone}
use Rattle.zone_reads.specs.Session.{Session, closed, told_difference}
use Rattle.zone_model.specs.Offer.{Offer, Denial, Provider, MayPush, IsHistory, is_granted, offer_of, offered}
use Rattle.zone_model.specs.Pushes.{HasHistory, offered_history}
use Rattle.zone_model.specs.Offer.Denial.{UnknownZone as NoSuchZone, NotGranted}
use Rattle.xfr_providers.specs.declared.providers.Grant.{Grant}
use Rattle.xfr_providers.specs.declared.providers.XfrDataProviderError.{XfrDataProviderError}
use Rattle.xfr_providers.specs.declared.providers.XfrDataProviderError.TheVariants.{ParseError, UnknownZone, Refused, TemporarilyUnavailable, Memory}

-- the number that an algorithm is granted by
abbrev pub algorithm_number : Algorithm → ℕ
algorithm_number Sha1 = 1
algorithm_number Sha256 = 2
algorithm_number Sha384 = 3
algorithm_number Sha512 = 4

-- a key as it is granted: by name and algorithm (RFC 8945, 5.2.1)
abbrev pub key_id : TsigKey → Name × ℕ
key_id key = (key.name, algorithm_number key.algorithm)

abbrev pub grant_id : Grant → Name × ℕ
grant_id g = (g.name, algorithm_number g.algorithm)

abbrev pub grant_ids : List Grant → List (Name × ℕ)
grant_ids grants = map grant_id grants

-- an offer or a denial, as it is answered
abbrev pub answer_of : Result Offer Denial → Result Offer XfrDataProviderError
answer_of (Ok offer) = Ok offer
answer_of (Err NoSuchZone) = Err UnknownZone
answer_of (Err NotGranted) = Err Refused

-- what a provider with a history answers to a request's sole question, which it must be able to read
abbrev pub answer_to : Provider → Option Question → Option (Name × ℕ) → Option ℕ → Result Offer XfrDataProviderError
answer_to p None key asked = Err ParseError
answer_to p (Some q) key asked = answer_of (offered p q.qname q.qclass key (unwrap_or asked 0))

-- a version alone, as it is offered
abbrev pub offer_alone : Version → Offer
offer_alone v = record { version = v; differences = []; compatibility = false }

-- what a zone answers to anyone: its version, to a question for its apex and class
abbrev pub zone_answer : Version → Option Question → Result Offer XfrDataProviderError
zone_answer v None = Err ParseError
zone_answer v (Some q) =
    if same_name q.qname v.apex && (q.qclass == v.class) then Ok (offer_alone v) else Err UnknownZone

-- what many zones answer to anyone: the version of the one that the name lies in (RFC 1034, 4.3.2, step 2)
abbrev pub found_answer : Option Version → Result Offer XfrDataProviderError
found_answer None = Err UnknownZone
found_answer (Some v) = Ok (offer_alone v)

abbrev pub zones_answer : {Z : Type 0} → (Z → Version) → Zones Z → Option Question
    → Result Offer XfrDataProviderError
zones_answer version_of zones None = Err ParseError
zones_answer version_of zones (Some q) =
    found_answer (option_map version_of (find_zone zones q.qclass q.qname))

-- the answer is what the provider tells, or want of memory, which is told only in the place of an offer
abbrev pub Answers : Result Offer XfrDataProviderError → Result Offer XfrDataProviderError → Type 0
Answers told (Ok offer) = told ≡ Ok offer
Answers told (Err ParseError) = told ≡ Err ParseError
Answers told (Err UnknownZone) = told ≡ Err UnknownZone
Answers told (Err Refused) = told ≡ Err Refused
Answers told (Err TemporarilyUnavailable) = told ≡ Err TemporarilyUnavailable
Answers told (Err Memory) = IsOk told

-- the law of grants: a provider with a history offers what it keeps to one whose key it grants (RFC 1995, 2)
abbrev pub HistoryGrants : Type 0
HistoryGrants = (p : Provider) (q : Question) (key : Name × ℕ) (asked : Option ℕ) → (same_name q.qname p.kept.apex && (q.qclass == p.kept.class)) ≡ true
    → is_granted p.grants (Some key) ≡ true → answer_to p (Some q) (Some key) asked ≡ Ok (offer_of p.kept p.differences p.compatibility (unwrap_or asked 0))

-- the law of histories: what a provider with a history offers has one, which ends in the version offered (RFC 1995, 4)
abbrev pub HistoryIsOffered : Type 0
HistoryIsOffered = (p : Provider) (q : Option Question) (key : Option (Name × ℕ)) (asked : Option ℕ)
    → (offer : Offer) (history : List Version) → HasHistory p history → answer_to p q key asked ≡ Ok offer
    → IsHistory offer (offered_history (unwrap_or asked 0) history)

-- the law of commits: what a commit tells may be pushed to a provider that keeps the version before it (RFC 1995, 5)
abbrev pub CommitsMayBePushed : Type 0
CommitsMayBePushed = (s : Session) (bumps : Bool)
    → MayPush s.current.version (closed s bumps) (told_difference s bumps)
