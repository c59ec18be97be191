-- How a message is signed, by the readings of its additional records one after another.
use Rattle.std.specs.Prelude.{ℕ, ◌≤◌, ◌<◌, List, [], ◌∷◌, length, Option, Some, None, if◌then◌else◌}
use Rattle.dns_rdata.specs.Heads.{RawRecord}
use Rattle.tsig_port.specs.Tsig.{Signature, is_tsig, signature_by, tsig_of}
use Rattle.tsig_port.specs.Tsig.Signature.{Malformed, Unsigned}

-- the signature by a TSIG record, which is the last reading
abbrev pub signature_last : List ℕ → RawRecord → List (Option RawRecord) → Signature
signature_last message raw [] = signature_by raw (tsig_of message raw)
signature_last message raw (next ∷ rest) = Malformed

-- the signature by what is left to be read of the additional records (RFC 8945, 5.2)
abbrev pub signature_left : List ℕ → List (Option RawRecord) → Signature
signature_left message [] = Unsigned
signature_left message (None ∷ rest) = Malformed
signature_left message (Some raw ∷ rest) = if is_tsig raw then signature_last message raw rest else signature_left message rest

-- a record that is read begins after the header, and within the message
abbrev pub IsBehindHeader : List ℕ → Option RawRecord → Type 0
IsBehindHeader message None = Unit {0}
IsBehindHeader message (Some raw) = (12 ≤ raw.start) × (raw.start < length message)
