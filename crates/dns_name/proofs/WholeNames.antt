-- A name that fills all the octets.
use Rattle.std.proofs.Common.{◌≡◌, ℕ, ◌+◌, List, [], length, sym, ap, ◌∙◌, true, Some}
use Rattle.std.proofs.lemmas.List.{append-nil}
use Rattle.dns_name.specs.Names.{Name, is_name, name_wire}
use Rattle.dns_name.specs.Compression.{name_at}
use Rattle.dns_name.proofs.NameWriting.{name_at-name_wire}

pub whole_name : (octets : List ℕ) (n : Name) → is_name n ≡ true → name_wire n ≡ octets → name_at octets 0 ≡ Some (n, 0 + length (name_wire n))
whole_name octets n h e =
    let spelled = append-nil (name_wire n) ∙ e in
    ap (λ m. name_at m 0) (sym spelled) ∙ name_at-name_wire [] n [] h
