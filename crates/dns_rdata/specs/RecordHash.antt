-- What a record gives to a hash: owner, class, type and data. Equal records give the same.
use Rattle.std.proofs.Common.{◌≡◌}
use Rattle.std.specs.Prelude.{◌++◌, IsTrue}
use Rattle.std.specs.Hash.{HashWrites, u16, Alike, and-Alike, on_Alike}
use Rattle.dns_name.specs.Names.{same_name}
use Rattle.dns_name.specs.NameOrder.{name_hash, same_hash}
use Rattle.dns_name.specs.Records.{Record}
use Rattle.dns_rdata.specs.DataHash.{fields_hash, type_alike, fields_alike}
use Rattle.dns_rdata.specs.SameRecord.{same_record}

-- what a record gives to a hash; the TTL gives nothing
abbrev pub record_hash : Record → HashWrites
record_hash r = name_hash r.owner ++ (u16 r.class ++ (u16 r.rtype ++ fields_hash r.fields))

owners_alike : Alike same_name name_hash
owners_alike = record { fed = same_hash }

pub same_record_hash : (a b : Record) → IsTrue (same_record a b) → record_hash a ≡ record_hash b
same_record_hash =
    (and-Alike (on_Alike (λ (r : Record). r.owner) owners_alike)
    (and-Alike (on_Alike (λ (r : Record). r.class) type_alike)
    (and-Alike (on_Alike (λ (r : Record). r.rtype) type_alike) (on_Alike (λ (r : Record). r.fields) fields_alike)))).fed
