-- Octets that go through a stream in parts.
use Rattle.std.specs.Prelude.{◌≡◌, ℕ, ◌+◌, ◌-◌, List, ◌++◌, take, drop, length, Some, None, Option}
use Rattle.std.proofs.Common.{ap, ◌∙◌, sym, append_assoc}
use Rattle.std.proofs.Math.Seq.{take-add}
use Rattle.zone_devices.specs.Streams.{with_more, with_first}
use Rattle.std.proofs.lemmas.List.{take-append-drop, drop-drop, take_at, take_rest}

-- a part after the first ones
written_part : (before : Option (List ℕ)) (xs : List ℕ) (i n : ℕ) (t u : Option (List ℕ)) → t ≡ with_more (take i xs) before
    → u ≡ with_more (take n (drop i xs)) t → u ≡ with_more (take (i + n) xs) before
written_part None xs i n t u e f = f ∙ ap (with_more (take n (drop i xs))) e
written_part (Some had) xs i n t u e f =
    f ∙ ap (with_more (take n (drop i xs))) e ∙ ap Some (append_assoc had (take i xs) (take n (drop i xs)) ∙ ap (λ part. had ++ part) (sym (take-add i n xs)))

pub written_more : (before : Option (List ℕ)) (xs : List ℕ) (i n : ℕ) (t u : Option (List ℕ)) → t ≡ with_more (take i xs) before
    → u ≡ with_more (take n (take (length xs - i) (drop i xs))) t → u ≡ with_more (take (i + n) xs) before
written_more before xs i n t u e f = written_part before xs i n t u e (f ∙ ap (λ r. with_more (take n r) t) (take_rest xs i))

-- what was read, then the rest
pub read_part : (xs more : List ℕ) (p n : ℕ) (part : List ℕ) → part ≡ take n (drop p xs) → length part ≡ n → take n (part ++ more) ++ drop (p + n) xs ≡ drop p xs
read_part xs more p n part e len =
    rw (take_at part more n len) (rw e (rw (← drop-drop n p xs) (take-append-drop n (drop p xs))))

-- all that was read so far, then the rest
pub read_more : (left now next : Option (List ℕ)) (octets part : List ℕ) → with_first octets now ≡ left → with_first part next ≡ now
    → with_first (octets ++ part) next ≡ left
read_more left now None octets part e f = ap (with_first octets) f ∙ e
read_more left now (Some rest) octets part e f = ap Some (append_assoc octets part rest) ∙ ap (with_first octets) f ∙ e
