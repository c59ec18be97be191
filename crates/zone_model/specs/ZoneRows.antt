-- Zones of worked examples, under `example.`, with TTL 3600 and class IN.
use Rattle.std.specs.Prelude.{ℕ, List, [], ◌∷◌, ◌++◌, codes, true, false, Result, Ok, Err}
use Rattle.dns_name.specs.Names.{Name}
use Rattle.dns_name.specs.Records.{Field, Octets, DomainName, Record}
use Rattle.dns_numbers.specs.Codes.{type_a, type_ns, type_cname, type_soa, type_aaaa, type_ds}
use Rattle.zone_model.specs.Version.{Version}
use Rattle.zone_model.specs.Edits.{Refusal, add_all, add}
use Rattle.zone_model.specs.Difference.{Difference}
use Rattle.zone_model.specs.Offer.{Provider, successive}
use Rattle.zone_model.specs.Commits.{Zone, Read, Edit, Publish, Abandon, after_all}

abbrev pub e : Name
e = codes "example" ∷ []

abbrev pub below : List (List ℕ) → Name
below labels = labels ++ e

abbrev pub empty_zone : Version
empty_zone = record { apex = e; class = 1; sets = [] }

abbrev pub rr : Name → ℕ → List Field → Record
rr owner rtype fields = record { owner = owner; rtype = rtype; class = 1; ttl = 3600; fields = fields }

-- the apex SOA with a serial whose four octets are these
abbrev pub soa_octets : List ℕ → Record
soa_octets serial = rr e type_soa (DomainName [] ∷ DomainName [] ∷ Octets (serial ++ 0 ∷ 0 ∷ 0 ∷ 0 ∷ 0 ∷ 0 ∷ 0 ∷ 0 ∷ 0 ∷ 0 ∷ 0 ∷ 0 ∷ 0 ∷ 0 ∷ 0 ∷ 0 ∷ []) ∷ [])

abbrev pub soa : ℕ → Record
soa n = soa_octets (0 ∷ 0 ∷ 0 ∷ n ∷ [])

abbrev pub ns : Name → Name → Record
ns owner target = rr owner type_ns (DomainName target ∷ [])

abbrev pub address : Name → ℕ → Record
address owner last = rr owner type_a (Octets (192 ∷ 0 ∷ 2 ∷ last ∷ []) ∷ [])

abbrev pub ds : Name → Record
ds owner = rr owner type_ds (Octets (0 ∷ 16 ∷ 8 ∷ 2 ∷ []) ∷ [])

abbrev pub alias : Name → Name → Record
alias owner target = rr owner type_cname (DomainName target ∷ [])

-- the zone with these records
abbrev pub zone_or : Result Version Refusal → Version
zone_or (Ok v) = v
zone_or (Err r) = empty_zone

abbrev pub zone : List Record → Version
zone records = zone_or (add_all empty_zone records)

abbrev pub www : Name
www = below (codes "www" ∷ [])

abbrev pub ns_host : Name
ns_host = below (codes "ns" ∷ [])

-- a zone with a name server and its two addresses
abbrev pub first_zone : Version
first_zone = zone (soa 1 ∷ ns e ns_host ∷ address ns_host 1 ∷ address ns_host 2 ∷ [])

abbrev pub t : Name
t = below (codes "t" ∷ [])

abbrev pub sub : Name
sub = below (codes "sub" ∷ [])

abbrev pub under_sub : Name
under_sub = below (codes "www" ∷ codes "sub" ∷ [])

-- the apex and that name in other letters
abbrev pub loud_e : Name
loud_e = codes "EXAMPLE" ∷ []

abbrev pub loud_sub : Name
loud_sub = codes "Sub" ∷ loud_e

-- a cut whose name server is in the zone
abbrev pub cut_zone : Version
cut_zone = zone (soa 1 ∷ ns sub sub ∷ address sub 3 ∷ [])

abbrev pub other : List (List ℕ) → Name
other labels = labels ++ codes "other" ∷ []

-- a signed cut with two name servers elsewhere
abbrev pub signed_zone : Version
signed_zone = zone (soa 1 ∷ ns sub (other (codes "a" ∷ [])) ∷ ns sub (other (codes "b" ∷ [])) ∷ ds sub ∷ [])

abbrev pub a_b : Name
a_b = below (codes "a" ∷ codes "b" ∷ [])

abbrev pub only_b : Name
only_b = below (codes "b" ∷ [])

abbrev pub c_b : Name
c_b = below (codes "c" ∷ codes "b" ∷ [])

-- an empty non-terminal
abbrev pub hollow_zone : Version
hollow_zone = zone (soa 2 ∷ address a_b 9 ∷ [])

abbrev pub w : List (List ℕ) → Name
w labels = below (labels ++ codes "w" ∷ [])

-- a cut at a wildcard
abbrev pub wild_zone : Version
wild_zone = zone (soa 1 ∷ ns (w (codes "*" ∷ [])) (other (codes "ns" ∷ [])) ∷ address (w (codes "a" ∷ codes "f" ∷ [])) 4 ∷ [])

-- an alias of a host, and one at the apex, which stands for nothing else there
abbrev pub alias_zone : Version
alias_zone = zone (soa 1 ∷ alias www t ∷ alias e t ∷ [])

-- a cut whose name server has an address of each kind
abbrev pub six : Name → Record
six owner = rr owner type_aaaa (Octets (32 ∷ 1 ∷ 13 ∷ 184 ∷ 0 ∷ 0 ∷ 0 ∷ 0 ∷ 0 ∷ 0 ∷ 0 ∷ 0 ∷ 0 ∷ 0 ∷ 0 ∷ 3 ∷ []) ∷ [])

abbrev pub six_zone : Version
six_zone = zone (soa 1 ∷ ns sub sub ∷ six sub ∷ address sub 3 ∷ [])

-- a history of three versions, after the example of RFC 1995, 7
abbrev pub jain : Name
jain = below (codes "jain-bb" ∷ [])

abbrev pub nezu : Name
nezu = below (codes "nezu" ∷ [])

abbrev pub history_1 : Version
history_1 = zone (soa 1 ∷ ns e ns_host ∷ address ns_host 1 ∷ address nezu 5 ∷ [])

abbrev pub history_2 : Version
history_2 = zone (soa 2 ∷ ns e ns_host ∷ address ns_host 1 ∷ address jain 4 ∷ address jain 2 ∷ [])

abbrev pub history_3 : Version
history_3 = zone (soa 3 ∷ ns e ns_host ∷ address ns_host 1 ∷ address jain 2 ∷ address jain 3 ∷ [])

-- the incremental text of that history
abbrev pub history_text : List Record
history_text = soa 3 ∷ soa 1 ∷ address nezu 5 ∷ soa 2 ∷ address jain 4 ∷ address jain 2 ∷ soa 2 ∷ address jain 4 ∷ soa 3 ∷ address jain 3 ∷ soa 3 ∷ []

abbrev pub history_differences : List Difference
history_differences = successive (history_1 ∷ history_2 ∷ history_3 ∷ [])

-- a provider of that history, which grants one key of algorithm 2
abbrev pub provider : Provider
provider = record { kept = history_3; differences = history_differences; grants = (sub, 2) ∷ []; compatibility = false }

abbrev pub with_ttl : ℕ → Record → Record
with_ttl ttl r = record r { ttl = ttl }

-- a zone whose first version is read, which then gets an address, is committed and read again, and drops a second edit
abbrev pub history : Zone
history =
    after_all (Read 0 0 ∷ Edit (λ v. add v (address t 1)) ∷ Publish ∷ Read 0 1 ∷ Edit (λ v. add v (address t 2)) ∷ Abandon ∷ [])
    (record { commits = record { number = 7; version = zone (soa 1 ∷ []) } ∷ []; pending = zone (soa 1 ∷ []); positions = [] })
