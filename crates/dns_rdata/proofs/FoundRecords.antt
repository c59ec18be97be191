-- A record that is found in octets is spelled by them.
use Rattle.std.proofs.Common.{◌≡◌, ℕ, ◌∙◌, List, sym, ap, Some, None}
use Rattle.std.specs.Prelude.{if◌then◌else◌}
use Rattle.std.specs.Str.{bytes_eq}
use Rattle.std.specs.Cmp.Lexicographic.{bytes_decides}
use Rattle.dns_name.specs.Octets.{◌>>=◌}
use Rattle.dns_name.proofs.NameReading.{bound, guarded}
use Rattle.dns_name.specs.Records.{Record, record_wire}
use Rattle.dns_rdata.specs.Heads.{raw_record_at, readable, record_in}

pub found_is_spelled : (octets : List ℕ) (r : Record) → record_in octets ≡ Some r → record_wire r ≡ octets
found_is_spelled octets r e =
    let (raw, found, rest) = bound (raw_record_at octets 0) (λ s. readable octets s.0 >>= λ x. if bytes_eq (record_wire x) octets then Some x else None) r e in
    let (x, read, last) = bound (readable octets raw.0) (λ x. if bytes_eq (record_wire x) octets then Some x else None) r rest in
    let (spelled, same) = guarded (bytes_eq (record_wire x) octets) x r last in
    ap record_wire (sym same) ∙ (bytes_decides (record_wire x) octets).0 spelled
