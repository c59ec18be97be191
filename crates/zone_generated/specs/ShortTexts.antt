-- Records that are sent in few octets.
use Rattle.std.specs.Prelude.{ℕ, ◌^◌, ◌<◌, ◌≤◌, length, IsTrue}
use Rattle.dns_name.specs.Names.{is_name}
use Rattle.dns_name.specs.Records.{Record, is_data, data_wire, record_wire}

-- a record that has a wire form, of 100 octets at most, and data of its type (RFC 1035, 3.2.1)
pub record IsShort (r : Record) : Type 0 where
  pub owner : IsTrue (is_name r.owner)
  pub rtype : r.rtype < 2 ^ 16
  pub class : r.class < 2 ^ 16
  pub ttl : r.ttl < 2 ^ 32
  pub len : length (data_wire r.fields) < 2 ^ 16
  pub pieces : IsTrue (is_data r.rtype r.fields)
  pub short : length (record_wire r) ≤ 100
