-- TSIG data as text.
use Rattle.std.specs.Prelude.{ℕ, List, [], ◌∷◌, ◌++◌, codes}
use Rattle.std.specs.List.{join_with_byte}
use Rattle.std.specs.Fmt.{decimal}
use Rattle.base64.specs.Engines.{standard}
use Rattle.base64.specs.GeneralPurpose.{encode_of}
use Rattle.dns_numbers.specs.CodeTexts.{tsig_rcode_text}
use Rattle.dns_name.specs.Names.{Name, name_text}
use Rattle.tsig_rdata.specs.TsigData.{Tsig}

-- the name with its last dot, which the root's text is already (RFC 1035, 5.1)
abbrev pub absolute_text : Name → List ℕ
absolute_text [] = codes "."
absolute_text (label ∷ labels) = name_text (label ∷ labels) ++ codes "."

-- octets in base64 (RFC 4648, 4)
unfoldable pub base64_text : List ℕ → List ℕ
base64_text octets = encode_of standard octets

-- the fields as they are sent, with a space between them: the absolute name, numbers in decimal digits, the MAC in base64, the error by
-- its name, and the other octets in base64 within quotes (RFC 8945, 4.2)
abbrev pub tsig_text : Tsig → List ℕ
tsig_text t = join_with_byte 32 (
    absolute_text t.algorithm ∷ decimal t.time_signed ∷ decimal t.fudge ∷ base64_text t.mac ∷ decimal t.original_id
    ∷ tsig_rcode_text t.error ∷ (codes "\"" ++ base64_text t.other ++ codes "\"") ∷ [])
