-- TSIG data that were written are read again.
use Rattle.std.proofs.Common.{◌≡◌, ℕ, ◌+◌, List, ◌++◌, length, length-append, refl, ap, ◌∙◌, arith, Some}
use Rattle.std.proofs.lemmas.List.{append_assoc}
use Rattle.dns_name.specs.Octets.{u16_octets, u48_octets}
use Rattle.dns_name.specs.Names.{name_wire}
use Rattle.dns_wire.proofs.ItemWriting.{octets_read, name_read, shifted, u16_read}
use Rattle.tsig_rdata.specs.TsigData.{Tsig, IsTsig, tsig_wire, tsig_rest, tsig_at}
use Rattle.tsig_rdata.proofs.Times.{u48_read}

-- data that were written are read again
pub tsig_read : (m : List ℕ) (p : ℕ) (t : Tsig) (before after : List ℕ) → m ≡ before ++ (tsig_wire t ++ after) → length before ≡ p → IsTsig t
    → tsig_at m p ≡ Some (t, p + length (tsig_wire t))
tsig_read m p t before after e eb ok =
    let n = name_wire t.algorithm in
    let s = u48_octets t.time_signed in
    let f = u16_octets t.fudge in
    let ml = u16_octets (length t.mac) in
    let a = t.mac in
    let i = u16_octets t.original_id in
    let r = u16_octets t.error in
    let ol = u16_octets (length t.other) in
    let o = t.other in
    let x8 = o ++ after in
    let x7 = ol ++ x8 in
    let x6 = r ++ x7 in
    let x5 = i ++ x6 in
    let x4 = a ++ x5 in
    let x3 = ml ++ x4 in
    let x2 = f ++ x3 in
    let x1 = s ++ x2 in
    let rest : tsig_rest t ++ after ≡ x1 = append_assoc (s ++ f ++ ml ++ a ++ i ++ r ++ ol) o after ∙ append_assoc (s ++ f ++ ml ++ a ++ i ++ r) ol x8
    ∙ append_assoc (s ++ f ++ ml ++ a ++ i) r x7 ∙ append_assoc (s ++ f ++ ml ++ a) i x6 ∙ append_assoc (s ++ f ++ ml) a x5 in
    let e1 : m ≡ before ++ (n ++ x1) = e ∙ ap (λ x. before ++ x) (append_assoc n (tsig_rest t) after ∙ ap (λ x. n ++ x) rest) in
    let e2 = e1 ∙ shifted before n x1 in
    let e3 = e2 ∙ shifted (before ++ n) s x2 in
    let e4 = e3 ∙ shifted (before ++ n ++ s) f x3 in
    let e5 = e4 ∙ shifted (before ++ n ++ s ++ f) ml x4 in
    let e6 = e5 ∙ shifted (before ++ n ++ s ++ f ++ ml) a x5 in
    let e7 = e6 ∙ shifted (before ++ n ++ s ++ f ++ ml ++ a) i x6 in
    let e8 = e7 ∙ shifted (before ++ n ++ s ++ f ++ ml ++ a ++ i) r x7 in
    let e9 = e8 ∙ shifted (before ++ n ++ s ++ f ++ ml ++ a ++ i ++ r) ol x8 in
    let l2 : length (before ++ n) ≡ p + length n = length-append before n ∙ ap (λ k. k + length n) eb in
    let l3 : length (before ++ n ++ s) ≡ p + length n + 6 = length-append (before ++ n) s ∙ ap (λ k. k + 6) l2 in
    let l4 : length (before ++ n ++ s ++ f) ≡ p + length n + 6 + 2 = length-append (before ++ n ++ s) f ∙ ap (λ k. k + 2) l3 in
    let l5 : length (before ++ n ++ s ++ f ++ ml) ≡ p + length n + 6 + 2 + 2 = length-append (before ++ n ++ s ++ f) ml ∙ ap (λ k. k + 2) l4 in
    let l6 : length (before ++ n ++ s ++ f ++ ml ++ a) ≡ p + length n + 6 + 2 + 2 + length a = length-append (before ++ n ++ s ++ f ++ ml) a ∙ ap (λ k. k + length a) l5 in
    let l7 : length (before ++ n ++ s ++ f ++ ml ++ a ++ i) ≡ p + length n + 6 + 2 + 2 + length a + 2 = length-append (before ++ n ++ s ++ f ++ ml ++ a) i ∙ ap (λ k. k + 2) l6 in
    let l8 : length (before ++ n ++ s ++ f ++ ml ++ a ++ i ++ r) ≡ p + length n + 6 + 2 + 2 + length a + 2 + 2 = length-append (before ++ n ++ s ++ f ++ ml ++ a ++ i) r ∙ ap (λ k. k + 2) l7 in
    let l9 : length (before ++ n ++ s ++ f ++ ml ++ a ++ i ++ r ++ ol) ≡ p + length n + 6 + 2 + 2 + length a + 2 + 2 + 2 = length-append (before ++ n ++ s ++ f ++ ml ++ a ++ i ++ r) ol ∙ ap (λ k. k + 2) l8 in
    let w0 = length-append n (tsig_rest t) in
    let w1 = length-append (s ++ f ++ ml ++ a ++ i ++ r ++ ol) o in
    let w2 = length-append (s ++ f ++ ml ++ a ++ i ++ r) ol in
    let w3 = length-append (s ++ f ++ ml ++ a ++ i) r in
    let w4 = length-append (s ++ f ++ ml ++ a) i in
    let w5 = length-append (s ++ f ++ ml) a in
    let whole : p + length n + 6 + 2 + 2 + length a + 2 + 2 + 2 + length o ≡ p + length (tsig_wire t) = omega (arith, w0, w1, w2, w3, w4, w5) in
    rw (
      name_read m p t.algorithm before x1 e1 eb ok.algorithm,
      u48_read m (p + length n) t.time_signed (before ++ n) x2 e2 l2 ok.time_signed,
      u16_read m (p + length n + 6) t.fudge (before ++ n ++ s) x3 e3 l3 ok.fudge,
      u16_read m (p + length n + 6 + 2) (length a) (before ++ n ++ s ++ f) x4 e4 l4 ok.mac,
      octets_read m (p + length n + 6 + 2 + 2) (length a) (before ++ n ++ s ++ f ++ ml) a x5 e5 l5 refl,
      u16_read m (p + length n + 6 + 2 + 2 + length a) t.original_id (before ++ n ++ s ++ f ++ ml ++ a) x6 e6 l6 ok.original_id,
      u16_read m (p + length n + 6 + 2 + 2 + length a + 2) t.error (before ++ n ++ s ++ f ++ ml ++ a ++ i) x7 e7 l7 ok.error,
      u16_read m (p + length n + 6 + 2 + 2 + length a + 2 + 2) (length o) (before ++ n ++ s ++ f ++ ml ++ a ++ i ++ r) x8 e8 l8 ok.other,
      octets_read m (p + length n + 6 + 2 + 2 + length a + 2 + 2 + 2) (length o) (before ++ n ++ s ++ f ++ ml ++ a ++ i ++ r ++ ol) o after e9 l9 refl,
    )
    (ap (λ k. Some (t, k)) whole)

pub data_again : (before after : List ℕ) (t : Tsig) → IsTsig t → tsig_at (before ++ (tsig_wire t ++ after)) (length before) ≡ Some (t, length before + length (tsig_wire t))
data_again before after t ok = tsig_read (before ++ (tsig_wire t ++ after)) (length before) t before after refl refl ok
