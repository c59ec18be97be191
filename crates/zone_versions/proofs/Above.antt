-- A name, and those at and above it.
use Rattle.std.proofs.Common.{◌≡◌, ℕ, ◌+◌, ◌≤◌, Bool, true, false, List, [], ◌∷◌, ◌++◌, length, drop, refl, sym, ap, ◌∙◌, true≢false, arith, length-append, append_assoc, is_eq, ◌⊎◌, inl, inr, ⊎_elim}
use Rattle.std.specs.Str.{str_to_ascii_lowercase}
use Rattle.std.specs.Cmp.{Equal-is}
use Rattle.std.proofs.lemmas.List.{length-map}
use Rattle.dns_name.specs.Names.{Name, fold, same_name, under, canonical_cmp}
use Rattle.dns_name.proofs.FoldedLabels.{equal_names, names_under, names_tied}

length-fold : (n : Name) → length (fold n) ≡ length n
length-fold n = length-map n str_to_ascii_lowercase

pub under_itself : (n a : Name) → fold n ≡ fold a → under n a ≡ true
under_itself n a e = (names_under n a).1 ([], e)

pub under_trans : (a b c : Name) → under a b ≡ true → under b c ≡ true → under a c ≡ true
under_trans a b c h k =
    let u = (names_under a b).0 h in
    let w = (names_under b c).0 k in
    (names_under a c).1 (u.0 ++ w.0, u.1 ∙ ap (λ r. u.0 ++ r) w.1 ∙ sym (append_assoc u.0 w.0 (fold c)))

pub under_longer : (l : List ℕ) (n a : Name) → under n a ≡ true → under (l ∷ n) a ≡ true
under_longer l n a h = let u = (names_under n a).0 h in (names_under (l ∷ n) a).1 (str_to_ascii_lowercase l ∷ u.0, ap (λ m. str_to_ascii_lowercase l ∷ m) u.1)

-- what is at or above a name is the name, or at or above the one above it
pub under_cases : (l : List ℕ) (n a : Name) → under (l ∷ n) a ≡ true → (fold (l ∷ n) ≡ fold a) ⊎ (under n a ≡ true)
under_cases l n a h = let u = (names_under (l ∷ n) a).0 h in by u.0 u.1
  where
    by : (above : Name) → fold (l ∷ n) ≡ above ++ fold a → (fold (l ∷ n) ≡ fold a) ⊎ (under n a ≡ true)
    by [] e = inl e
    by (x ∷ above) e = inr ((names_under n a).1 (above, ap (drop 1) e))

abbrev is_root : Name → Bool
is_root [] = true
is_root (l ∷ n) = false

pub under_root : (a : Name) → under [] a ≡ true → fold [] ≡ fold a
under_root a h = let u = (names_under [] a).0 h in by u.0 u.1
  where
    by : (above : Name) → fold [] ≡ above ++ fold a → fold [] ≡ fold a
    by [] e = e
    by (x ∷ above) e = absurd (true≢false (ap is_root e))

-- a name has no fewer labels than those above it
pub under_longest : (n a : Name) → under n a ≡ true → length a ≤ length n
under_longest n a h =
    let u = (names_under n a).0 h in
    let e : length n ≡ length u.0 + length a = sym (length-fold n) ∙ ap length u.1 ∙ length-append u.0 (fold a) ∙ ap (λ k. length u.0 + k) (length-fold a) in
    omega (arith, e)

pub nothing_before : (xs ys : Name) → ys ≡ xs ++ ys → xs ≡ []
nothing_before [] ys e = refl
nothing_before (x ∷ xs) ys e = absurd (omega (arith, ap length e, length-append xs ys))

-- each at or above the other, two names are equal
pub under_both : (a b : Name) → under a b ≡ true → under b a ≡ true → fold a ≡ fold b
under_both a b h k =
    let u = (names_under a b).0 h in
    let l : length b ≤ length a = under_longest a b h in
    let m : length a ≤ length b = under_longest b a k in
    by u.0 u.1 (omega (arith, sym (length-fold a) ∙ ap length u.1 ∙ length-append u.0 (fold b), length-fold b))
  where
    by : (above : Name) → fold a ≡ above ++ fold b → length above ≤ 0 → fold a ≡ fold b
    by [] e z = e
    by (x ∷ above) e z = absurd (omega arith)

pub is_same : (a b : Name) → fold a ≡ fold b → same_name a b ≡ true
is_same a b e = (equal_names a b).1 e

pub same_is : (a b : Name) → same_name a b ≡ true → fold a ≡ fold b
same_is a b e = (equal_names a b).0 e

-- names that tie in canonical order are equal
pub tied : (a b : Name) → is_eq (canonical_cmp a b) ≡ true → fold a ≡ fold b
tied a b h = (names_tied a b).0 ((Equal-is (canonical_cmp a b)).0 h)

pub ties : (a b : Name) → fold a ≡ fold b → is_eq (canonical_cmp a b) ≡ true
ties a b e = ap is_eq ((names_tied a b).1 e)

-- two names at or above one are at or above each other
pub under_either : (n a b : Name) → under n a ≡ true → under n b ≡ true → (under a b ≡ true) ⊎ (under b a ≡ true)
under_either [] a b h k = inl (under_trans a [] b (under_itself a [] (sym (under_root a h))) k)
under_either (l ∷ n) a b h k =
    ⊎_elim (λ e. inl (under_trans a (l ∷ n) b (under_itself a (l ∷ n) (sym e)) k))
    (λ u. ⊎_elim (λ e. inr (under_trans b (l ∷ n) a (under_itself b (l ∷ n) (sym e)) h)) (λ w. under_either n a b u w) (under_cases l n b k))
    (under_cases l n a h)
