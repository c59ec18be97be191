-- TSIG data from their parts, and the time among them.
use Rattle.std.specs.Prelude.{ℕ, ◌==◌, List, length, Option, Some, None, if◌then◌else◌}
use Rattle.dns_name.specs.Octets.{u48_number}
use Rattle.dns_name.specs.Names.{Name}
use Rattle.tsig_rdata.specs.TsigData.{Tsig}

-- the data of these fields (RFC 8945, 4.2)
abbrev pub tsig_with : Name → ℕ → ℕ → List ℕ → ℕ → ℕ → List ℕ → Tsig
tsig_with algorithm time_signed fudge mac original_id error other = record {
  algorithm = algorithm;
  time_signed = time_signed;
  fudge = fudge;
  mac = mac;
  original_id = original_id;
  error = error;
  other = other;
}

-- the time that other octets tell, where they are six (RFC 8945, 5.2.3)
abbrev pub time_in : List ℕ → Option ℕ
time_in other = if length other == 6 then Some (u48_number other) else None
