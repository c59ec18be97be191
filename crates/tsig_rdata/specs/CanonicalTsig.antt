-- Canonical order of TSIG data (RFC 4034, 6.2 and 6.3; RFC 8945, 4.2).
use Rattle.std.specs.Prelude.{ℕ, List, ◌++◌, length}
use Rattle.std.specs.Ordering.{nat_cmp}
use Rattle.std.specs.declared.cmp.Ordering.{Ordering}
use Rattle.std.specs.Cmp.Lexicographic.{slice_cmp}
use Rattle.dns_name.specs.Octets.{u16_octets, u48_octets}
use Rattle.tsig_rdata.specs.TsigData.{Tsig, tsig_wire}

-- the order of the data as they are sent, as strings of octets: the algorithm's name written out in its own case, since TSIG is none of
-- the types whose names are put in lower case (RFC 4034, 6.2 and 6.3)
abbrev pub canonical_tsig_cmp : Tsig → Tsig → Ordering
canonical_tsig_cmp a b = slice_cmp nat_cmp (tsig_wire a) (tsig_wire b)

-- the time signed, the fudge and the MAC's length as they are sent (RFC 8945, 4.2)
abbrev pub times_wire : Tsig → List ℕ
times_wire t = u48_octets t.time_signed ++ u16_octets t.fudge ++ u16_octets (length t.mac)

-- the original id, the error and the length of the other octets as they are sent (RFC 8945, 4.2)
abbrev pub state_wire : Tsig → List ℕ
state_wire t = u16_octets t.original_id ++ u16_octets t.error ++ u16_octets (length t.other)
