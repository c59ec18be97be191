-- A list, cut at the first element of a kind.
use Rattle.std.proofs.Common.{◌≡◌, ◌≢◌, ℕ, ◌+◌, ◌<◌, true, false, ◌==◌, List, [], ◌∷◌, Option, Some, None, length, get_or, refl, ap, ◌∙◌, subst, arith, take, drop, suc, zero, add-one}
use Rattle.std.proofs.lemmas.Bool.Decides.{nat_tests}
use Rattle.std.proofs.lemmas.List.Splits.{length-slice_split}
use Rattle.std.specs.List.{slice_split}
use Rattle.memchr.specs.Find.{IsFirstByte, is_byte}
use Rattle.zone_script.specs.ScriptLines.{script_lines, lines_of_parts}

head_differs : (c x : ℕ) → x ≢ c → (x == c) ≡ false
head_differs c x ne = grind (arith, nat_tests)

same_test : (c : ℕ) → (c == c) ≡ true
same_test c = grind (arith, nat_tests)

-- at the first place of a kind the first part ends
split_at_place : (c : ℕ) (xs : List ℕ) (place : ℕ) → place < length xs → ((k : ℕ) → k < place → get_or xs k 0 ≢ c) → get_or xs place 0 ≡ c
    → slice_split (λ o. o == c) xs ≡ take place xs ∷ slice_split (λ o. o == c) (drop (place + 1) xs)
split_at_place c [] place h before e = absurd (omega arith)
split_at_place c (x ∷ xs) zero h before e = rw (e, same_test c)
split_at_place c (x ∷ xs) (suc n) h before e =
    let differs : (x == c) ≡ false = head_differs c x (before 0 (omega arith)) in
    let rest : slice_split (λ o. o == c) xs ≡ take n xs ∷ slice_split (λ o. o == c) (drop (n + 1) xs) = split_at_place c xs n (omega arith) (λ k lt. before (suc k) (omega arith)) e in
    rw (differs, rest) (simp add-one)

-- where no element is of that kind, there is one part
split_nowhere : (c : ℕ) (xs : List ℕ) → ((k : ℕ) → k < length xs → get_or xs k 0 ≢ c) → slice_split (λ o. o == c) xs ≡ xs ∷ []
split_nowhere c [] before = refl
split_nowhere c (x ∷ xs) before =
    let differs : (x == c) ≡ false = head_differs c x (before 0 (omega arith)) in
    let rest : slice_split (λ o. o == c) xs ≡ xs ∷ [] = split_nowhere c xs (λ k lt. before (suc k) (omega arith)) in
    rw (differs, rest)

is_same : (c x : ℕ) → (x == c) ≡ true → x ≡ c
is_same c x e = grind (arith, nat_tests)

-- what a search for an octet says: the first part ends where it is found ..
pub split_found : (c : ℕ) (xs : List ℕ) (found : Option ℕ) (place : ℕ) → IsFirstByte (is_byte c) xs found → found ≡ Some place
    → slice_split (λ o. o == c) xs ≡ take place xs ∷ slice_split (λ o. o == c) (drop (place + 1) xs)
split_found c xs found place first e =
    let at : IsFirstByte (is_byte c) xs (Some place) = subst (IsFirstByte (is_byte c) xs) e first in
    split_at_place c xs place at.0.high (λ k lt same. at.0.before k (omega arith) lt (ap (λ x. x == c) same ∙ same_test c)) (is_same c (get_or xs place 0) at.1)

-- .. and where it isn't, there is one part
pub split_unfound : (c : ℕ) (xs : List ℕ) (found : Option ℕ) → IsFirstByte (is_byte c) xs found → found ≡ None → slice_split (λ o. o == c) xs ≡ xs ∷ []
split_unfound c xs found first e =
    let nowhere : IsFirstByte (is_byte c) xs None = subst (IsFirstByte (is_byte c) xs) e first in
    split_nowhere c xs (λ k lt same. nowhere k (omega arith) lt (ap (λ x. x == c) same ∙ same_test c))

nonempty_parts : (l : List ℕ) (parts : List (List ℕ)) → parts ≢ [] → lines_of_parts (l ∷ parts) ≡ l ∷ lines_of_parts parts
nonempty_parts l [] h = absurd (h refl)
nonempty_parts l (m ∷ more) h = refl

split_is_some : (c : ℕ) (xs : List ℕ) → slice_split (λ o. o == c) xs ≢ []
split_is_some c xs e = let len = length-slice_split (λ o. o == c) xs in let none : length (slice_split (λ o. o == c) xs) ≡ 0 = ap length e in absurd (omega (arith, len, none))

-- the first line of a script, where it has an end
pub line_with_end : (xs l rest : List ℕ) → slice_split (λ o. o == 10) xs ≡ l ∷ slice_split (λ o. o == 10) rest → script_lines xs ≡ l ∷ script_lines rest
line_with_end xs l rest e = ap lines_of_parts e ∙ nonempty_parts l (slice_split (λ o. o == 10) rest) (split_is_some 10 rest)
