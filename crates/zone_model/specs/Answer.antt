-- What a version answers to a question (RFC 1034, 4.3.2; RFC 4592).
use Rattle.std.specs.Prelude.{ℕ, Bool, true, false, ◌&&◌, ◌||◌, ◌==◌, if◌then◌else◌, List, [], ◌∷◌, ◌++◌, map, reverse, Option, Some, None, is_some, unwrap_or, option_map, find, filter, flat_map, bytes_eq}
use Rattle.std.specs.Cmp.Lexicographic.{pointwise}
use Rattle.dns_name.specs.Names.{Name, fold, same_name, under, upwards, wildcard_below}
use Rattle.dns_name.specs.Records.{Field, DomainName, Record}
use Rattle.dns_numbers.specs.Codes.{type_a, type_ns, type_cname, type_soa, type_aaaa, type_ds, type_any}
use Rattle.zone_model.specs.Version.{RecordSet, Key, Version, set_at, below_apex, exists, is_cut}

-- the five kinds of answer (RFC 1034, 4.3.2; RFC 2308, 2)
pub data Answer : Type 0 where
  Referral : (owner : Name) (servers : RecordSet) (signer : Option RecordSet) → Answer
  Alias : (target : RecordSet) → Answer
  Found : (rtype : ℕ) (found : RecordSet) → Answer
  NoData : Answer
  NameError : Answer

-- the highest zone cut at or above a name (RFC 1034, 4.2.1)
abbrev pub highest_cut : Version → Name → Option Name
highest_cut v q = find (is_cut v) (reverse (upwards q))

-- the set of a type, or no data
abbrev pub set_or_no_data : ℕ → Option RecordSet → Answer
set_or_no_data rtype None = NoData
set_or_no_data rtype (Some s) = Found rtype s

-- the set of the least type, or no data
abbrev pub first_set : List (Key × RecordSet) → Answer
first_set [] = NoData
first_set (e ∷ es) = Found e.0.1 e.1

-- the sets of one owner, types ascending
abbrev pub sets_of : Version → Name → List (Key × RecordSet)
sets_of v n = filter (λ (e : Key × RecordSet). pointwise bytes_eq e.0.0 (fold n)) v.sets

-- a name below no cut: its CNAME whatever is asked, else the set asked for (RFC 1034, 4.3.2, step 3a)
abbrev pub own_sets : Version → Name → ℕ → Option RecordSet → Answer
own_sets v n rtype (Some alias) = Alias alias
own_sets v n rtype None = if rtype == type_any then first_set (sets_of v n) else set_or_no_data rtype (set_at v n rtype)

-- below the apex alone, a CNAME stands for the whole name
abbrev pub alias_at : Version → Name → Option RecordSet
alias_at v n = if below_apex v n then set_at v n type_cname else None

-- the referral at a cut (RFC 1034, 4.3.2, step 3b); DS is the parent's own (RFC 4035, 3.1.4.1)
abbrev pub at_cut : Version → Name → ℕ → Name → Answer
at_cut v n rtype c =
    if same_name n c && (rtype == type_ds) then set_or_no_data type_ds (set_at v c type_ds)
    else Referral (fold c) (unwrap_or (set_at v c type_ns) (record { ttl = 0; items = [] })) (set_at v c type_ds)

-- a name that exists, or has a cut above it
abbrev pub answer_at : Version → Name → ℕ → Option Name → Answer
answer_at v n rtype (Some c) = at_cut v n rtype c
answer_at v n rtype None = own_sets v n rtype (alias_at v n)

-- the longest existing name at or above q (RFC 4592, 3.3.1)
abbrev pub closest_encloser : Version → Name → Name
closest_encloser v q = unwrap_or (find (exists v) (upwards q)) v.apex

-- the wildcard below the closest encloser, where it exists (RFC 4592, 3.3.2 and 4.2)
abbrev pub from_wildcard : Version → Name → ℕ → Answer
from_wildcard v w rtype = if exists v w then answer_at v w rtype (highest_cut v w) else NameError

-- how the zone answers a question whose name is in it (RFC 1034, 4.3.2; RFC 4592, 3.3.1)
abbrev pub answer : Version → Name → ℕ → Answer
answer v q rtype =
    if is_some (highest_cut v q) || exists v q then answer_at v q rtype (highest_cut v q)
    else from_wildcard v (wildcard_below (closest_encloser v q)) rtype

-- all but referrals are authoritative (RFC 1034, 4.3.2)
abbrev pub is_authoritative : Answer → Bool
is_authoritative (Referral c servers signer) = false
is_authoritative (Alias s) = true
is_authoritative (Found t s) = true
is_authoritative NoData = true
is_authoritative NameError = true

-- NXDOMAIN for a name error, else NOERROR (RFC 1035, 4.1.1)
abbrev pub rcode_of : Answer → ℕ
rcode_of (Referral c servers signer) = 0
rcode_of (Alias s) = 0
rcode_of (Found t s) = 0
rcode_of NoData = 0
rcode_of NameError = 3

-- the records of a set
abbrev pub records_of : Name → ℕ → ℕ → RecordSet → List Record
records_of owner rtype class s = map (λ d. record { owner = owner; rtype = rtype; class = class; ttl = s.ttl; fields = d }) s.items

abbrev pub records_of_option : Name → ℕ → ℕ → Option RecordSet → List Record
records_of_option owner rtype class None = []
records_of_option owner rtype class (Some s) = records_of owner rtype class s

-- the answer section: the records found, at the name that was asked for (RFC 4592, 3.3.1)
abbrev pub answer_section : Version → Name → Answer → List Record
answer_section v q (Referral c servers signer) = []
answer_section v q (Alias s) = records_of q type_cname v.class s
answer_section v q (Found t s) = records_of q t v.class s
answer_section v q NoData = []
answer_section v q NameError = []

-- the first SOA record of the apex
abbrev pub first_only : RecordSet → RecordSet
first_only s = record { ttl = s.ttl; items = first_of s.items }
  where
    first_of : List (List Field) → List (List Field)
    first_of [] = []
    first_of (d ∷ more) = d ∷ []

abbrev pub apex_soa_record : Version → List Record
apex_soa_record v = records_of_option v.apex type_soa v.class (option_map first_only (set_at v v.apex type_soa))

-- the authority section: NS and DS of a referral, the SOA of a negative answer (RFC 2308, 3)
abbrev pub authority_section : Version → Answer → List Record
authority_section v (Referral c servers signer) = records_of c type_ns v.class servers ++ records_of_option c type_ds v.class signer
authority_section v (Alias s) = []
authority_section v (Found t s) = []
authority_section v NoData = apex_soa_record v
authority_section v NameError = apex_soa_record v

-- an owner as a version keeps it: the apex as it was given, others in lower case
abbrev pub kept_owner : Version → Name → Name
kept_owner v n = if same_name n v.apex then v.apex else fold n

-- the A then AAAA records of one name server, where its name is in the zone
abbrev pub addresses_of : Version → List Field → List Record
addresses_of v (DomainName n ∷ []) = if under n v.apex then records_of_option (kept_owner v n) type_a v.class (set_at v n type_a) ++ records_of_option (kept_owner v n) type_aaaa v.class (set_at v n type_aaaa) else []
addresses_of v _ = []

-- the additional section: the addresses of a referral's name servers, in order (RFC 1034, 4.2.1)
abbrev pub glue_section : Version → Answer → List Record
glue_section v (Referral c servers signer) = flat_map (addresses_of v) servers.items
glue_section v (Alias s) = []
glue_section v (Found t s) = []
glue_section v NoData = []
glue_section v NameError = []
