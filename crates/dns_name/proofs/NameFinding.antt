-- Octets that are a name, all of them.
use Rattle.std.proofs.Common.{◌≡◌, ℕ, ◌∙◌, List, refl, sym, ap, Some, None}
use Rattle.std.specs.Prelude.{IsTrue, if◌then◌else◌}
use Rattle.std.specs.Str.{bytes_eq}
use Rattle.std.specs.Cmp.Lexicographic.{bytes_decides}
use Rattle.dns_name.specs.Names.{Name, is_name, name_wire}
use Rattle.dns_name.specs.Compression.{name_at, name_in}
use Rattle.dns_name.proofs.NameReading.{bound, guarded}
use Rattle.dns_name.proofs.WholeNames.{whole_name}

pub found_is_spelled : (octets : List ℕ) (n : Name) → name_in octets ≡ Some n → name_wire n ≡ octets
found_is_spelled octets n e =
    let (r, read, last) = bound (name_at octets 0) (λ s. if bytes_eq (name_wire s.0) octets then Some s.0 else None) n e in
    let (spelled, same) = guarded (bytes_eq (name_wire r.0) octets) r.0 n last in
    ap name_wire (sym same) ∙ (bytes_decides (name_wire r.0) octets).0 spelled

pub spelled_is_found : (n : Name) → IsTrue (is_name n) → name_in (name_wire n) ≡ Some n
spelled_is_found n h = rw (whole_name (name_wire n) n h refl, (bytes_decides (name_wire n) (name_wire n)).1 refl) refl
