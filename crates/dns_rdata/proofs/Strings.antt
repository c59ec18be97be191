-- Character strings one after another.
use Rattle.std.proofs.Common.{◌≡◌, ℕ, zero, suc, ◌<◌, ◌≤◌, true, false, List, [], ◌∷◌, length, take, drop, refl, sym, ap, ◌∙◌, arith, true≢false, ◌++◌, le-leb, ltb-true}
use Rattle.std.specs.Prelude.{IsTrue, nat_lt, nat_le, flat_map}
use Rattle.std.specs.List.{list_all}
use Rattle.std.proofs.lemmas.Bool.{and_parts}
use Rattle.std.proofs.lemmas.List.{length-drop, length-take, length-take-le, take-append-drop}
use Rattle.dns_name.proofs.Elements.{split_fits}
use Rattle.dns_name.specs.Records.{are_strings, are_strings_after, strings_from, strings_in}

-- a string that is all there leaves what stands after it
pub string_left : (n : ℕ) (o : List ℕ) → n ≤ length o → are_strings_after n o ≡ are_strings_after 0 (drop n o)
string_left zero o h = refl
string_left (suc n) [] h = absurd (omega (arith, h))
string_left (suc n) (c ∷ o) h = string_left n o (omega (arith, h))

-- a string that is longer than what is left isn't whole
pub string_cut : (n : ℕ) (o : List ℕ) → length o < n → are_strings_after n o ≡ false
string_cut zero o h = absurd (omega (arith, h))
string_cut (suc n) [] h = refl
string_cut (suc n) (c ∷ o) h = string_cut n o (omega (arith, h))

-- a whole string is there
pub string_there : (n : ℕ) (o : List ℕ) → IsTrue (are_strings_after n o) → n ≤ length o
string_there zero o t = omega arith
string_there (suc n) [] t = absurd (true≢false (sym t))
string_there (suc n) (c ∷ o) t = omega (arith, string_there n o t)

-- a higher bound gives the same strings
bounds_alike : (n m : ℕ) (o : List ℕ) → length o ≤ n → length o ≤ m → strings_from n o ≡ strings_from m o
bounds_alike zero zero o h k = refl
bounds_alike zero (suc m) [] h k = refl
bounds_alike zero (suc m) (len ∷ rest) h k = absurd (omega (arith, h))
bounds_alike (suc n) zero [] h k = refl
bounds_alike (suc n) zero (len ∷ rest) h k = absurd (omega (arith, k))
bounds_alike (suc n) (suc m) [] h k = refl
bounds_alike (suc n) (suc m) (len ∷ rest) h k =
    let left = length-drop len rest in
    ap (λ ss. take len rest ∷ ss) (bounds_alike n m (drop len rest) (omega (arith, h, left)) (omega (arith, k, left)))

-- the first string, and those after it
pub strings_more : (len : ℕ) (rest : List ℕ) → strings_in (len ∷ rest) ≡ take len rest ∷ strings_in (drop len rest)
strings_more len rest =
    ap (λ ss. take len rest ∷ ss) (bounds_alike (length rest) (length (drop len rest)) (drop len rest) (omega (arith, length-drop len rest)) (omega arith))

-- each string has an octet of its own
few_from : (n : ℕ) (o : List ℕ) → length (strings_from n o) ≤ n
few_from zero o = omega arith
few_from (suc n) [] = omega arith
few_from (suc n) (len ∷ rest) = omega (arith, few_from n (drop len rest))

pub few_strings : (o : List ℕ) → length (strings_in o) ≤ length o
few_strings o = few_from (length o) o

-- whole strings, each led by its length again, are the octets
spelled_from : (n : ℕ) (o : List ℕ) → length o ≤ n → are_strings_after 0 o ≡ true → flat_map (λ s. length s ∷ s) (strings_from n o) ≡ o
spelled_from zero [] h t = refl
spelled_from zero (len ∷ rest) h t = absurd (omega (arith, h))
spelled_from (suc n) [] h t = refl
spelled_from (suc n) (len ∷ rest) h t =
    let there = string_there len rest t in
    let others = spelled_from n (drop len rest) (omega (arith, h, length-drop len rest)) (sym (string_left len rest there) ∙ t) in
    (λ i. length-take-le len rest there i ∷ take len rest ++ others i) ∙ ap (λ x. len ∷ x) (take-append-drop len rest)

pub strings_spelled : (o : List ℕ) → IsTrue (are_strings o) → flat_map (λ s. length s ∷ s) (strings_in o) ≡ o
strings_spelled [] t = refl
strings_spelled (len ∷ rest) t = spelled_from (length (len ∷ rest)) (len ∷ rest) (omega arith) t

-- no string is longer than an octet can tell
short_from : (n : ℕ) (o : List ℕ) → list_all (λ c. nat_lt c 256) o ≡ true → list_all (λ s. nat_le (length s) 255) (strings_from n o) ≡ true
short_from zero o h = refl
short_from (suc n) [] h = refl
short_from (suc n) (len ∷ rest) h =
    let parts = and_parts (nat_lt len 256) (list_all (λ c. nat_lt c 256) rest) h in
    let short : length (take len rest) ≤ 255 = omega (arith, ltb-true len 256 parts.0, length-take len rest) in
    rw (le-leb (length (take len rest)) 255 short, short_from n (drop len rest) (split_fits len rest parts.1).1) refl

pub short_strings : (o : List ℕ) → IsTrue (list_all (λ c. nat_lt c 256) o) → IsTrue (list_all (λ s. nat_le (length s) 255) (strings_in o))
short_strings o h = short_from (length o) o h

-- whole strings, at least one, are whole strings
pub whole_or_none : (o : List ℕ) → IsTrue (are_strings o) → IsTrue (are_strings_after 0 o)
whole_or_none [] t = absurd (true≢false (sym t))
whole_or_none (len ∷ rest) t = t
