-- A record as it is read: its head, by RDLENGTH alone, and its data (RFC 1035, 3.2.1 and 4.1.3).
use Rattle.std.specs.Prelude.{ℕ, ◌+◌, ◌-◌, ◌==◌, ◌&&◌, List, length, take, Option, Some, None, if◌then◌else◌}
use Rattle.std.specs.Str.{bytes_eq}
use Rattle.dns_name.specs.Octets.{◌>>=◌, octets_at, u16_at, u32_at}
use Rattle.dns_name.specs.Names.{Name, name_wire}
use Rattle.dns_name.specs.Compression.{name_at}
use Rattle.dns_name.specs.Records.{Record, record_wire, parts, fields_at}

-- a record of which only the head was read; its data are the rdlength octets from place rdata on (RFC 1035, 4.1.3)
pub record RawRecord : Type 0 where
  pub start : ℕ
  pub owner : Name
  pub rtype : ℕ
  pub class : ℕ
  pub ttl : ℕ
  pub rdata : ℕ
  pub rdlength : ℕ

-- the record at a place, by RDLENGTH alone (RFC 1035, 4.1.3)
unfoldable pub raw_record_at : List ℕ → ℕ → Option (RawRecord × ℕ)
raw_record_at message start = do
  (owner, p) ← name_at message start
  (rtype, p) ← u16_at message p
  (class, p) ← u16_at message p
  (ttl, p) ← u32_at message p
  (rdlength, rdata) ← u16_at message p
  (octets, after) ← octets_at rdlength message rdata
  Some (record { start = start; owner = owner; rtype = rtype; class = class; ttl = ttl; rdata = rdata; rdlength = rdlength }, after)

-- the record with its data, where the data have the pieces of the type and fill RDLENGTH; else it isn't readable
abbrev pub readable : List ℕ → RawRecord → Option Record
readable message raw = do
  fields ← fields_at (parts raw.rtype) message (raw.rdata + raw.rdlength) raw.rdata
  Some (record { owner = raw.owner; rtype = raw.rtype; class = raw.class; ttl = raw.ttl; fields = fields })

-- the record that the octets spell, all of them and without a pointer, if they spell one
abbrev pub record_in : List ℕ → Option Record
record_in octets = do
  (raw, after) ← raw_record_at octets 0
  r ← readable octets raw
  if bytes_eq (record_wire r) octets then Some r else None

-- the record head that the octets spell, all of them and with an owner without a pointer, the data unread
abbrev pub raw_in : List ℕ → Option RawRecord
raw_in octets = do
  (raw, after) ← raw_record_at octets 0
  if after == length octets && bytes_eq (name_wire raw.owner) (take (raw.rdata - 10) octets) then Some raw else None

-- what a lent record shows: the message that it lies in, and its head
pub record RecordIn : Type 0 where
  pub message : List ℕ
  pub raw : RawRecord
