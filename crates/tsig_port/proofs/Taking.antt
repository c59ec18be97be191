-- Octets that a MAC takes one after another.
use Rattle.std.proofs.Common.{◌≡◌, ℕ, ◌+◌, ◌-◌, ◌≤◌, List, [], ◌∷◌, ◌++◌, length, length-append, take, drop, sym, ap, ◌∙◌, arith}
use Rattle.std.specs.Prelude.{slice_range}
use Rattle.std.proofs.lemmas.List.{append_assoc, length-take-le, length-drop}
use Rattle.std.proofs.Math.Seq.{take-append-add}
use Rattle.dns_name.specs.Octets.{u16_octets, u32_octets, u48_octets}
use Rattle.dns_name.specs.Names.{Name, name_wire, fold}
use Rattle.dns_wire.specs.Wire.{arcount_in}
use Rattle.tsig_port.specs.Tsig.{Tsig, digested_message, variables, timers}

pub two : (t a b : List ℕ) → t ++ a ++ b ≡ t ++ (a ++ b)
two t a b = append_assoc t a b

pub four : (t a b c d : List ℕ) → t ++ a ++ b ++ c ++ d ≡ t ++ (a ++ b ++ c ++ d)
four t a b c d = simp append_assoc

nine : (t a b c d e f g h i : List ℕ) → t ++ a ++ (b ++ c) ++ d ++ (e ++ f) ++ g ++ (h ++ i) ≡ t ++ (a ++ b ++ c ++ d ++ e ++ f ++ g ++ h ++ i)
nine t a b c d e f g h i = simp append_assoc

-- the TSIG variables, piece by piece
pub variables_taken : (text first second : List ℕ) (owner : Name) (t : Tsig) → first ≡ name_wire (fold owner) → second ≡ name_wire (fold t.algorithm)
    → text ++ first ++ (0 ∷ 255 ∷ 0 ∷ 0 ∷ 0 ∷ 0 ∷ []) ++ second ++ timers t ++ u16_octets t.error ++ (u16_octets (length t.other) ++ t.other) ≡ text ++ variables owner t
variables_taken text first second owner t o a =
    rw (o, a) (nine text (name_wire (fold owner)) (u16_octets 255) (u32_octets 0) (name_wire (fold t.algorithm)) (u48_octets t.time_signed) (u16_octets t.fudge) (u16_octets t.error) (u16_octets (length t.other)) t.other)

-- the digested message, piece by piece
digested : (m : List ℕ) (start id : ℕ) → 12 ≤ start → start ≤ length m
    → u16_octets id ++ slice_range m 2 10 ++ u16_octets (arcount_in m - 1) ++ slice_range m 12 start ≡ digested_message start id m
digested m start id header within =
    let front = u16_octets id ++ slice_range m 2 10 ++ u16_octets (arcount_in m - 1) in
    let tail = length-drop 2 m in
    let middle : length (slice_range m 2 10) ≡ 8 = length-take-le 8 (drop 2 m) (omega (arith, header, within, tail)) in
    let l1 = length-append (u16_octets id ++ slice_range m 2 10) (u16_octets (arcount_in m - 1)) in
    let l2 = length-append (u16_octets id) (slice_range m 2 10) in
    let long : length front + (start - 12) ≡ start = omega (arith, middle, l1, l2, header) in
    sym (take-append-add front (drop 12 m) (start - 12)) ∙ ap (λ k. take k (front ++ drop 12 m)) long

pub message_taken : (text m : List ℕ) (start id : ℕ) → 12 ≤ start → start ≤ length m
    → text ++ u16_octets id ++ slice_range m 2 10 ++ u16_octets (arcount_in m - 1) ++ slice_range m 12 start ≡ text ++ digested_message start id m
message_taken text m start id header within =
    four text (u16_octets id) (slice_range m 2 10) (u16_octets (arcount_in m - 1)) (slice_range m 12 start)
    ∙ ap (λ x. text ++ x) (digested m start id header within)
