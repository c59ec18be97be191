-- A moment in six octets.
use Rattle.std.proofs.Common.{◌≡◌, ℕ, ◌+◌, ◌/◌, ◌<◌, ◌^◌, List, ◌++◌, length, refl, sym, ap, arith, Some, None}
use Rattle.std.specs.Prelude.{Result, Ok, Err, IfOk, OnErr}
use Rattle.std.proofs.lemmas.Nat.{from_be_bytes-to_be_bytes_8}
use Rattle.dns_name.specs.Octets.{u48_octets, u48_number, u48_at}
use Rattle.dns_wire.proofs.ItemWriting.{octets_read}

u48_again : (n : ℕ) → n < 2 ^ 48 → u48_number (u48_octets n) ≡ n
u48_again n small =
    let all = from_be_bytes-to_be_bytes_8 n (omega (arith, small)) in
    let seventh : n / 256 ^ 7 ≡ 0 = omega (arith, small) in
    let sixth : n / 256 ^ 6 ≡ 0 = omega (arith, small) in
    rw (seventh, sixth) at all

-- a moment that was written is read again
pub u48_read : (m : List ℕ) (p n : ℕ) (before after : List ℕ) → m ≡ before ++ (u48_octets n ++ after) → length before ≡ p → n < 2 ^ 48
    → u48_at m p ≡ Some (n, p + 6)
u48_read m p n before after e eb small = rw (octets_read m p 6 before (u48_octets n) after e eb refl, u48_again n small) refl

pub time_again : {E : Type 0} (m : List ℕ) (p t : ℕ) (before after : List ℕ) (r : Result (ℕ × ℕ) E) → IfOk r (λ x. u48_at m p ≡ Some x)
    → OnErr r (u48_at m p ≡ None) → t < 2 ^ 48 → m ≡ before ++ (u48_octets t ++ after) → p ≡ length before → r ≡ Ok (t, p + 6)
time_again m p t before after (Ok x) found none small stands at =
    let read = u48_read m p t before after stands (sym at) small in
    let same : x ≡ (t, p + 6) = cc (found, read) in
    ap (λ y. Ok y) same
time_again m p t before after (Err e) found none small stands at =
    let read = u48_read m p t before after stands (sym at) small in
    absurd (cc (none, read))
