-- SOA data with another serial.
use Rattle.std.proofs.Common.{◌≡◌, ℕ, ◌/◌, ◌%◌, ◌^◌, ◌<◌, [], ◌∷◌, ◌++◌, ap, arith}
use Rattle.dns_name.specs.Names.{Name}
use Rattle.dns_name.specs.Octets.{u32_octets}
use Rattle.dns_name.specs.Records.Field.{Octets, DomainName}
use Rattle.dns_rdata.specs.declared.soa.Soa.{Soa}
use Rattle.dns_rdata.specs.DataFields.{soa_fields, soa_times}
use Rattle.dns_name.specs.Soa.{with_serial}

top : (m : ℕ) → m < 2 ^ 32 → m / 16777216 % 256 ≡ m / 16777216
top m h = omega arith

-- the serial's octets change alone
pub with_serial_is : (s : Soa Name) (m : ℕ) → m < 2 ^ 32 → soa_fields (λ n. n) (record s { serial = m }) ≡ with_serial m (soa_fields (λ n. n) s)
unfolding soa_times
with_serial_is s m h =
    ap (λ (x : ℕ). DomainName s.mname ∷ DomainName s.rname ∷ Octets (x ∷ m / 65536 % 256 ∷ m / 256 % 256 ∷ m % 256 ∷ (u32_octets s.refresh ++ u32_octets s.retry ++ u32_octets s.expire ++ u32_octets s.minimum)) ∷ []) (top m h)
