-- Numbers that have names as text (IANA, Domain Name System Parameters). Without a name it is the kind of number and the number in
-- decimal digits: so RFC 3597, 5 writes types and classes, and opcodes and rcodes are written alike here.
use Rattle.std.specs.Prelude.{ℕ, ◌==◌, List, ◌++◌, codes, if◌then◌else◌}
use Rattle.std.specs.Fmt.{decimal}

-- a type (RFC 1035, 3.2.2; RFC 3597, 5)
abbrev pub rtype_text : ℕ → List ℕ
rtype_text c =
    if c == 1 then codes "A" else
    if c == 2 then codes "NS" else
    if c == 3 then codes "MD" else
    if c == 4 then codes "MF" else
    if c == 5 then codes "CNAME" else
    if c == 6 then codes "SOA" else
    if c == 7 then codes "MB" else
    if c == 8 then codes "MG" else
    if c == 9 then codes "MR" else
    if c == 12 then codes "PTR" else
    if c == 14 then codes "MINFO" else
    if c == 15 then codes "MX" else
    if c == 16 then codes "TXT" else
    if c == 28 then codes "AAAA" else
    if c == 33 then codes "SRV" else
    if c == 43 then codes "DS" else
    if c == 250 then codes "TSIG" else
    if c == 251 then codes "IXFR" else
    if c == 252 then codes "AXFR" else
    if c == 255 then codes "ANY" else
    codes "TYPE" ++ decimal c

-- a class (RFC 1035, 3.2.4; RFC 3597, 5)
abbrev pub class_text : ℕ → List ℕ
class_text c =
    if c == 1 then codes "IN" else
    if c == 255 then codes "ANY" else
    codes "CLASS" ++ decimal c

-- an opcode (RFC 6895, 2.2)
abbrev pub opcode_text : ℕ → List ℕ
opcode_text c =
    if c == 0 then codes "QUERY" else
    if c == 1 then codes "IQUERY" else
    if c == 2 then codes "STATUS" else
    if c == 4 then codes "NOTIFY" else
    if c == 5 then codes "UPDATE" else
    codes "OPCODE" ++ decimal c

-- an rcode of a header (RFC 6895, 2.3)
abbrev pub rcode_text : ℕ → List ℕ
rcode_text c =
    if c == 0 then codes "NOERROR" else
    if c == 1 then codes "FORMERR" else
    if c == 2 then codes "SERVFAIL" else
    if c == 3 then codes "NXDOMAIN" else
    if c == 4 then codes "NOTIMP" else
    if c == 5 then codes "REFUSED" else
    if c == 6 then codes "YXDOMAIN" else
    if c == 7 then codes "YXRRSET" else
    if c == 8 then codes "NXRRSET" else
    if c == 9 then codes "NOTAUTH" else
    if c == 10 then codes "NOTZONE" else
    codes "RCODE" ++ decimal c

-- the error of a TSIG: NOERROR, FORMERR, and what RFC 8945, 3 assigns. An rcode that tells no error of a TSIG, as SERVFAIL, goes by its number.
abbrev pub tsig_rcode_text : ℕ → List ℕ
tsig_rcode_text c =
    if c == 0 then codes "NOERROR" else
    if c == 1 then codes "FORMERR" else
    if c == 16 then codes "BADSIG" else
    if c == 17 then codes "BADKEY" else
    if c == 18 then codes "BADTIME" else
    if c == 22 then codes "BADTRUNC" else
    codes "RCODE" ++ decimal c
