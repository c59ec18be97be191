-- Five numbers of four octets each, as they are sent.
use Rattle.std.proofs.Common.{◌≡◌, ℕ, ◌+◌, ◌*◌, ◌/◌, ◌%◌, ◌^◌, ◌<◌, List, ◌++◌, length, drop, sym, ap, ◌∙◌, arith}
use Rattle.std.specs.List.{slice_range}
use Rattle.std.proofs.lemmas.List.{append_assoc, append-nil, drop_all}
use Rattle.std.proofs.lemmas.List.Folds.{drop_split}

-- twenty octets are their five fours
pub five_fours : (o : List ℕ) → length o ≡ 20 → slice_range o 0 4 ++ slice_range o 4 8 ++ slice_range o 8 12 ++ slice_range o 12 16 ++ slice_range o 16 20 ≡ o
five_fours o h =
    let a = slice_range o 0 4 in
    let b = slice_range o 4 8 in
    let c = slice_range o 8 12 in
    let d = slice_range o 12 16 in
    let last : drop 16 o ≡ slice_range o 16 20 = drop_split o 16 20 (omega arith) ∙ ap (λ x. slice_range o 16 20 ++ x) (drop_all 20 o (omega arith)) ∙ append-nil _ in
    let fourth : drop 12 o ≡ d ++ slice_range o 16 20 = drop_split o 12 16 (omega arith) ∙ ap (λ x. d ++ x) last in
    let third : drop 8 o ≡ c ++ (d ++ slice_range o 16 20) = drop_split o 8 12 (omega arith) ∙ ap (λ x. c ++ x) fourth in
    let second : drop 4 o ≡ b ++ (c ++ (d ++ slice_range o 16 20)) = drop_split o 4 8 (omega arith) ∙ ap (λ x. b ++ x) third in
    let first : o ≡ a ++ (b ++ (c ++ (d ++ slice_range o 16 20))) = drop_split o 0 4 (omega arith) ∙ ap (λ x. a ++ x) second in
    simp append_assoc (sym first)

-- a number from its four octets
pub four_octets : (n : ℕ) → n < 2 ^ 32 → ((n / 16777216 % 256 * 256 + n / 65536 % 256) * 256 + n / 256 % 256) * 256 + n % 256 ≡ n
four_octets n h = omega arith
