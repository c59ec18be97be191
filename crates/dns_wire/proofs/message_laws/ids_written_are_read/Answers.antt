use Rattle.std.proofs.Common.{ℕ, ap}
use Rattle.std.proofs.lemmas.Nat.{from_be_bytes-to_be_bytes_2}
use Rattle.dns_wire.specs.Wire.{header_of, header_number}
use Rattle.dns_wire.proofs.message_laws.ids_written_are_read.Goals as goal

pub returns : goal.returns
returns c = λ message id small. ap (λ (n : ℕ). header_of n (header_number 2 message)) (from_be_bytes-to_be_bytes_2 id small)
