-- A request as it was received, by its header then and what was taken of it.
use Rattle.std.proofs.Common.{◌≡◌, ℕ, ◌≤◌, List, [], ◌∷◌, ◌++◌, length, length-append, length-take-le, length-drop, take, drop, refl, sym, ap, ◌∙◌, arith, take-append-drop}
use Rattle.std.specs.Prelude.{slice_range, ◌-◌}
use Rattle.dns_name.specs.Octets.{u16_octets}
use Rattle.dns_wire.specs.Wire.{arcount_in}
use Rattle.tsig_port.specs.Tsig.{Signature, signature_of}
use Rattle.tsig_port.specs.Tsig.Signature.{Malformed, Unsigned, Signed}
use Rattle.tsig_port.specs.Checked.{taken_message, taken_by}

drop_front : (xs ys : List ℕ) → drop (length xs) (xs ++ ys) ≡ ys
drop_front [] ys = refl
drop_front (x ∷ xs) ys = drop_front xs ys

-- behind a header with another id and another ARCOUNT
pub behind_header : (m : List ℕ) (signature : Signature) → 12 ≤ length m → drop 12 (taken_by m signature) ≡ drop 12 m
behind_header m Malformed long = refl
behind_header m Unsigned long = refl
behind_header m (Signed start owner t) long =
    let id = u16_octets t.original_id in
    let counts = slice_range m 2 10 in
    let header = id ++ counts ++ u16_octets (arcount_in m - 1) in
    let twelve : length header ≡ 12 = omega (
      arith,
      long,
      length-append (id ++ counts) (u16_octets (arcount_in m - 1)),
      length-append id counts,
      length-take-le 8 (drop 2 m) (omega (arith, long, length-drop 2 m)),
      length-drop 2 m,
    ) in
    ap (λ k. drop k (header ++ drop 12 m)) (sym twelve) ∙ drop_front header (drop 12 m)

-- what is taken of a request changes its header alone
pub came : (m : List ℕ) → 12 ≤ length m → take 12 m ++ drop 12 (taken_message m) ≡ m
came m long = ap (λ xs. take 12 m ++ xs) (behind_header m (signature_of m) long) ∙ take-append-drop 12 m
