-- A number of two octets written into a header.
use Rattle.std.specs.Prelude.{ℕ, ◌+◌, List, ◌++◌, take, drop}
use Rattle.dns_name.specs.Octets.{u16_octets}
use Rattle.dns_wire.specs.Wire.{Counts, qdcount_in, ancount_in, nscount_in, arcount_in}

-- the message with that number in two octets at place k, the other octets as they were (RFC 1035, 4.1.1)
abbrev pub with_number : ℕ → List ℕ → ℕ → List ℕ
with_number k message n = take k message ++ u16_octets n ++ drop (k + 2) message

-- the counts of octets that are at least a header (RFC 1035, 4.1.1)
abbrev pub counts_in : List ℕ → Counts
counts_in message = record { qdcount = qdcount_in message; ancount = ancount_in message; nscount = nscount_in message; arcount = arcount_in message }
