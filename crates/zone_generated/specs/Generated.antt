-- The zone that is made from two numbers: how many hosts are drawn, and the seed from which they are drawn.
use Rattle.std.specs.Prelude.{ℕ, zero, suc, ◌+◌, ◌*◌, ◌/◌, ◌%◌, ◌^◌, List, [], ◌∷◌, ◌++◌, map, replicate, fold as fold_list, codes, decimal}
use Rattle.dns_name.specs.Names.{Name}
use Rattle.dns_name.specs.Octets.{u32_octets}
use Rattle.dns_numbers.specs.Codes.{type_a, type_ns, type_soa, class_in}
use Rattle.dns_name.specs.Records.{Field, Octets, DomainName, Record}
use Rattle.tsig_keys.specs.Hmac.{block_key}
use Rattle.tsig_keys.specs.TsigKeys.{TsigKey}
use Rattle.tsig_keys.specs.declared.algorithms.Algorithm.TheVariants.{Sha256}
use Rattle.zone_model.specs.Version.{Version}
use Rattle.zone_model.specs.Classify.{opened_with}

-- ---- the draws

-- the draw after another one
abbrev pub next_draw : ℕ → ℕ
next_draw x = (x * 6364136223846793005 + 1442695040888963407) % 2 ^ 64

-- so many draws after the seed
abbrev pub draws : ℕ → ℕ → List ℕ
draws zero seed = []
draws (suc n) seed = next_draw seed ∷ draws n (next_draw seed)

-- which one of n hosts a draw is of, and the label of that host
abbrev pub host_number : ℕ → ℕ → ℕ
host_number n x = x / 2 ^ 33 % n

abbrev pub host_label : ℕ → ℕ → List ℕ
host_label n x = codes "h" ++ decimal (host_number n x)

-- the upper half of a draw, as the octets of an address
abbrev pub host_address : ℕ → List ℕ
host_address x = u32_octets (x / 2 ^ 32)

-- ---- the records

-- `example.`, the apex, and `ns.example.`
abbrev pub zone_name : Name
zone_name = codes "example" ∷ []

abbrev pub server_name : Name
server_name = codes "ns" ∷ zone_name

abbrev pub record_of : Name → ℕ → List Field → Record
record_of owner rtype fields = record { owner = owner; rtype = rtype; class = class_in; ttl = 3600; fields = fields }

-- the root for both names, serial 1, and 0 for the other four numbers (RFC 1035, 3.3.13)
abbrev pub soa_record : Record
soa_record = record_of zone_name type_soa (DomainName [] ∷ DomainName [] ∷ Octets (0 ∷ 0 ∷ 0 ∷ 1 ∷ replicate 16 0) ∷ [])

abbrev pub ns_record : Record
ns_record = record_of zone_name type_ns (DomainName server_name ∷ [])

abbrev pub host_record : ℕ → ℕ → Record
host_record n x = record_of (host_label n x ∷ zone_name) type_a (Octets (host_address x) ∷ [])

-- ---- the zone

-- the zone before it has records
abbrev pub empty : Version
empty = record { apex = zone_name; class = class_in; sets = [] }

-- equal records count once, as in any zone that is opened
abbrev pub generated : ℕ → ℕ → Version
generated n seed = fold_list opened_with empty (soa_record ∷ ns_record ∷ map (host_record n) (draws n seed))

-- ---- the key of both sides: `key.`, HMAC-SHA256, the secret 0 1 2, whole MACs (RFC 8945, 4.3)

abbrev pub key : TsigKey
key = record { name = codes "key" ∷ []; algorithm = Sha256; secret = block_key Sha256 (0 ∷ 1 ∷ 2 ∷ []); min_mac_len = 32; signing_len = 32 }
