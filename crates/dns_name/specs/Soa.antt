-- The serial in SOA data (RFC 1035, 3.3.13).
use Rattle.std.specs.Prelude.{ℕ, ◌+◌, ◌*◌, ◌/◌, ◌%◌, ◌^◌, List, [], ◌∷◌}
use Rattle.dns_name.specs.Records.{Field}
use Rattle.dns_name.specs.Records.Field.{Octets, DomainName}

-- the serial of SOA data: the first four octets after the two names (RFC 1035, 3.3.13)
abbrev pub serial_of : List Field → ℕ
serial_of (DomainName m ∷ DomainName r ∷ Octets (x ∷ y ∷ z ∷ w ∷ times) ∷ []) = ((x * 256 + y) * 256 + z) * 256 + w
serial_of _ = 0

-- SOA data with another serial
abbrev pub with_serial : ℕ → List Field → List Field
with_serial n (DomainName m ∷ DomainName r ∷ Octets (x ∷ y ∷ z ∷ w ∷ times) ∷ []) = DomainName m ∷ DomainName r ∷ Octets (n / 2 ^ 24 ∷ n / 2 ^ 16 % 256 ∷ n / 256 % 256 ∷ n % 256 ∷ times) ∷ []
with_serial n other = other
