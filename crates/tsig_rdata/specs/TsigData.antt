-- The data of a TSIG record (RFC 8945, 4.2).
use Rattle.std.specs.Prelude.{ℕ, ◌+◌, ◌==◌, ◌&&◌, ◌<◌, ◌^◌, nat_lt, nat_le, Bool, List, [], ◌∷◌, ◌++◌, length, Option, Some, None, IsTrue, if◌then◌else◌}
use Rattle.std.specs.Int.{abs_diff}
use Rattle.dns_name.specs.Octets.{◌>>=◌, u16_octets, u48_octets, octets_at, u16_at, u48_at}
use Rattle.dns_numbers.specs.Codes.{type_tsig, class_any}
use Rattle.dns_name.specs.Names.{Name, name_wire, is_name}
use Rattle.dns_name.specs.Compression.{name_at}
use Rattle.dns_rdata.specs.Records.{Record}
use Rattle.dns_rdata.specs.Records.Field.{Octets, DomainName}
use Rattle.dns_rdata.specs.Heads.{RawRecord}

-- the data of a TSIG record (RFC 8945, 4.2)
pub record Tsig : Type 0 where
  pub algorithm : Name
  pub time_signed : ℕ
  pub fudge : ℕ
  pub mac : List ℕ
  pub original_id : ℕ
  pub error : ℕ
  pub other : List ℕ

-- what follows the algorithm's name in the data (RFC 8945, 4.2)
abbrev pub tsig_rest : Tsig → List ℕ
tsig_rest t = u48_octets t.time_signed ++ u16_octets t.fudge ++ u16_octets (length t.mac) ++ t.mac
    ++ u16_octets t.original_id ++ u16_octets t.error ++ u16_octets (length t.other) ++ t.other

-- the data as they are sent, the algorithm's name written out (RFC 8945, 4.2)
abbrev pub tsig_wire : Tsig → List ℕ
tsig_wire t = name_wire t.algorithm ++ tsig_rest t

-- the record of a TSIG: type 250, class ANY, TTL 0 (RFC 8945, 4.2)
abbrev pub tsig_record : Name → Tsig → Record
tsig_record owner t = record { owner = owner; rtype = type_tsig; class = class_any; ttl = 0; fields = DomainName t.algorithm ∷ Octets (tsig_rest t) ∷ [] }

-- the data at place p (RFC 8945, 4.2)
abbrev pub tsig_at : List ℕ → ℕ → Option (Tsig × ℕ)
tsig_at message p = do
  (algorithm, p) ← name_at message p
  (time_signed, p) ← u48_at message p
  (fudge, p) ← u16_at message p
  (mac_len, p) ← u16_at message p
  (mac, p) ← octets_at mac_len message p
  (original_id, p) ← u16_at message p
  (error, p) ← u16_at message p
  (other_len, p) ← u16_at message p
  (other, p) ← octets_at other_len message p
  Some (record { algorithm = algorithm; time_signed = time_signed; fudge = fudge; mac = mac; original_id = original_id; error = error; other = other }, p)

-- the TSIG of a record: its data fill RDLENGTH, and written out they have at most 65,535 octets (RFC 8945, 4.2)
unfoldable pub tsig_of : List ℕ → RawRecord → Option Tsig
tsig_of message raw = do
  (t, after) ← tsig_at message raw.rdata
  if after == raw.rdata + raw.rdlength && nat_lt (length (tsig_wire t)) 65536 then Some t else None

-- whether the moment is within the fudge of the time signed (RFC 8945, 5.2.3)
abbrev pub within_fudge : Tsig → ℕ → Bool
within_fudge t now = nat_le (abs_diff t.time_signed now) t.fudge

-- TSIG data that have a wire form (RFC 8945, 4.2)
pub record IsTsig (t : Tsig) : Type 0 where
  pub algorithm : IsTrue (is_name t.algorithm)
  pub time_signed : t.time_signed < 2 ^ 48
  pub fudge : t.fudge < 2 ^ 16
  pub mac : length t.mac < 2 ^ 16
  pub original_id : t.original_id < 2 ^ 16
  pub error : t.error < 2 ^ 16
  pub other : length t.other < 2 ^ 16
