-- The fields of record data that are octets alone, type by type (RFC 1035, 3.3.14 and 3.4.1; RFC 3596, 2.2; RFC 4034, 5.1; RFC 3597, 3).
use Rattle.std.specs.Prelude.{ℕ, List, [], ◌∷◌, ◌++◌}
use Rattle.dns_name.specs.Octets.{u16_octets}
use Rattle.dns_name.specs.Records.{Field}
use Rattle.dns_name.specs.Records.Field.{Octets}
use Rattle.dns_rdata.specs.DataValues.{DsValue, UnknownValue}
use Rattle.dns_rdata.specs.declared.addresses.A.{A}
use Rattle.dns_rdata.specs.declared.addresses.Aaaa.{Aaaa}

-- the address of an A record
abbrev pub a_fields : A → List Field
a_fields a = Octets a.octets ∷ []

-- the address of an AAAA record
abbrev pub aaaa_fields : Aaaa → List Field
aaaa_fields a = Octets a.octets ∷ []

-- the character strings of a TXT record, each led by an octet that tells its length
abbrev pub txt_fields : List ℕ → List Field
txt_fields strings = Octets strings ∷ []

-- what stands before the digest: key tag, algorithm, digest type
unfoldable pub ds_head : DsValue → List ℕ
ds_head d = u16_octets d.key_tag ++ d.algorithm ∷ d.digest_type ∷ []

-- key tag, algorithm, digest type and digest of a DS record
abbrev pub ds_fields : DsValue → List Field
ds_fields d = Octets (ds_head d ++ d.digest) ∷ []

-- the octets of data of a type that isn't known
abbrev pub unknown_fields : UnknownValue → List Field
unknown_fields d = Octets d.octets ∷ []
