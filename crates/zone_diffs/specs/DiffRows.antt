-- Sets of worked examples: an apex SOA and a host's addresses (RFC 1995, 7).
use Rattle.std.specs.Prelude.{ℕ, List, [], ◌∷◌, length}
use Rattle.std.specs.List.{sum_by}
use Rattle.dns_numbers.specs.Codes.{type_a, type_soa, type_cname}
use Rattle.dns_rdata.specs.Records.{Field}
use Rattle.dns_rdata.specs.Records.Field.{Octets, DomainName}
use Rattle.zone_model.specs.Version.{RecordSet, Key, Sets}
use Rattle.zone_model.specs.ZoneRows.{e, t, soa, soa_octets, www}
use Rattle.zone_diffs.specs.Building.{Sides, added_to, removed_from}

abbrev pub nothing : Sides
nothing = record { removed = []; added = [] }

abbrev pub apex_soa : Key
apex_soa = (e, type_soa)

abbrev pub host_a : Key
host_a = (t, type_a)

abbrev pub www_alias : Key
www_alias = (www, type_cname)

-- the address 192.0.2.n, and an alias of a name of one label
abbrev pub host : ℕ → List Field
host n = Octets (192 ∷ 0 ∷ 2 ∷ n ∷ []) ∷ []

abbrev pub alias : List ℕ → List Field
alias label = DomainName (label ∷ []) ∷ []

abbrev pub set : ℕ → List (List Field) → RecordSet
set ttl items = record { ttl = ttl; items = items }

abbrev pub soa_set : ℕ → RecordSet
soa_set n = set 3600 ((soa n).fields ∷ [])

abbrev pub hosts : ℕ → RecordSet
hosts ttl = set ttl (host 1 ∷ host 2 ∷ host 3 ∷ [])

-- the apex SOA alone, from a serial of one octet to one of four
abbrev pub soa_change : ℕ → List ℕ → Sides
soa_change n octets = added_to (removed_from nothing apex_soa (soa_set n)) apex_soa (set 3600 ((soa_octets octets).fields ∷ []))

-- three addresses whose TTL changes, with the SOA
abbrev pub ttl_change : Sides
ttl_change = added_to (added_to (removed_from (removed_from nothing host_a (hosts 3600)) apex_soa (soa_set 1)) host_a (hosts 60)) apex_soa (soa_set 2)

abbrev pub record_count : Sets → ℕ
record_count sets = sum_by (λ (e : Key × RecordSet). length e.1.items) sets
