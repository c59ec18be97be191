-- What stands between a record's owner and its data (RFC 1035, 3.2.1).
use Rattle.std.specs.Prelude.{ℕ, List, ◌++◌, length}
use Rattle.dns_name.specs.Octets.{u16_octets, u32_octets}
use Rattle.dns_name.specs.Records.{Record, data_wire}

-- TYPE, CLASS, TTL and RDLENGTH as they are sent
unfoldable pub head_wire : Record → List ℕ
head_wire r = u16_octets r.rtype ++ u16_octets r.class ++ u32_octets r.ttl ++ u16_octets (length (data_wire r.fields))
