-- Strings of octets compare as the numbers that equally many of them spell, the first of which weighs most.
use Rattle.std.proofs.Common.{◌≡◌, ℕ, zero, suc, ◌+◌, ◌*◌, ◌<◌, ◌≤◌, min, List, [], ◌∷◌, take, drop, get_or, length, refl, sym, ap, ◌∙◌, subst, Ordering, Less, Equal, Greater, nat_cmp, w64, true, false, true≢false, add-one, arith}
use Rattle.std.specs.Ordering.{ordering_then, is_ne}
use Rattle.std.specs.Int.{from_be_bytes}
use Rattle.std.specs.Cmp.{nat_cmp_is}
use Rattle.std.proofs.Math.Seq.{drop-cons}
use Rattle.std.proofs.lemmas.Cmp.{ranked}
use Rattle.paged_map.specs.Octets.{octets_cmp}

-- the number that octets spell after another number
abbrev spelt : ℕ → List ℕ → ℕ
spelt n [] = n
spelt n (u ∷ us) = spelt (n * 256 + u) us

abbrev AreOctets : List ℕ → Type 0
AreOctets us = (i : ℕ) → get_or us i 0 < 256

below : (a b : ℕ) → a < b → nat_cmp a b ≡ Less
below a b h = sym (nat_cmp_is a b Less h)

level : (a b : ℕ) → a ≡ b → nat_cmp a b ≡ Equal
level a b h = sym (nat_cmp_is a b Equal h)

above : (a b : ℕ) → b < a → nat_cmp a b ≡ Greater
above a b h = sym (nat_cmp_is a b Greater h)

-- what is spelt after a lesser number is less
rises : (us vs : List ℕ) (a b : ℕ) → length us ≡ length vs → AreOctets us → a < b → spelt a us < spelt b vs
rises [] [] a b e f l = l
rises [] (v ∷ vs) a b e f l = absurd (omega (arith, e))
rises (u ∷ us) [] a b e f l = absurd (omega (arith, e))
rises (u ∷ us) (v ∷ vs) a b e f l =
    let small : u < 256 = f 0 in
    rises us vs (a * 256 + u) (b * 256 + v) (omega (arith, e)) (λ i. f (suc i)) (omega (arith, small, l))

-- numbers compare as the octets that spell them
spelt_order : (us vs : List ℕ) (a : ℕ) → length us ≡ length vs → AreOctets us → AreOctets vs → nat_cmp (spelt a us) (spelt a vs) ≡ octets_cmp us vs
spelt_order [] [] a e f h = level a a refl
spelt_order [] (v ∷ vs) a e f h = absurd (omega (arith, e))
spelt_order (u ∷ us) [] a e f h = absurd (omega (arith, e))
spelt_order (u ∷ us) (v ∷ vs) a e f h = by (nat_cmp u v) refl (spelt_order us vs (a * 256 + u) (omega (arith, e)) (λ i. f (suc i)) (λ i. h (suc i)))
  where
    by : (o : Ordering) → nat_cmp u v ≡ o → nat_cmp (spelt (a * 256 + u) us) (spelt (a * 256 + u) vs) ≡ octets_cmp us vs
        → nat_cmp (spelt (a * 256 + u) us) (spelt (a * 256 + v) vs) ≡ ordering_then (nat_cmp u v) (octets_cmp us vs)
    by Less q rest =
        let less : u < v = ranked u v Less (sym q) in
        below (spelt (a * 256 + u) us) (spelt (a * 256 + v) vs) (rises us vs (a * 256 + u) (a * 256 + v) (omega (arith, e)) (λ i. f (suc i)) (omega (arith, less)))
        ∙ sym (ap (λ o. ordering_then o (octets_cmp us vs)) q)
    by Equal q rest =
        let same : u ≡ v = ranked u v Equal (sym q) in
        subst (λ w. nat_cmp (spelt (a * 256 + u) us) (spelt (a * 256 + w) vs) ≡ octets_cmp us vs) same rest ∙ sym (ap (λ o. ordering_then o (octets_cmp us vs)) q)
    by Greater q rest =
        let more : v < u = ranked u v Greater (sym q) in
        above (spelt (a * 256 + u) us) (spelt (a * 256 + v) vs) (rises vs us (a * 256 + v) (a * 256 + u) (omega (arith, e)) (λ i. h (suc i)) (omega (arith, more)))
        ∙ sym (ap (λ o. ordering_then o (octets_cmp us vs)) q)

-- a list of known length, one element after another
abbrev laid : ℕ → List ℕ → List ℕ
laid zero xs = []
laid (suc n) xs = get_or xs 0 0 ∷ laid n (drop 1 xs)

laid_out : (n : ℕ) (xs : List ℕ) → length xs ≡ n → xs ≡ laid n xs
laid_out zero [] e = refl
laid_out zero (x ∷ xs) e = absurd (omega (arith, e))
laid_out (suc n) [] e = absurd (omega (arith, e))
laid_out (suc n) (x ∷ xs) e = ap (λ l. x ∷ l) (laid_out n xs (omega (arith, e)))

eight_spell : (a b c d e f g h : ℕ) → from_be_bytes w64 (a ∷ b ∷ c ∷ d ∷ e ∷ f ∷ g ∷ h ∷ []) ≡ spelt 0 (a ∷ b ∷ c ∷ d ∷ e ∷ f ∷ g ∷ h ∷ [])
eight_spell a b c d e f g h = omega arith

word_spells : (xs : List ℕ) → length xs ≡ 8 → from_be_bytes w64 xs ≡ spelt 0 xs
word_spells xs e = subst (λ l. from_be_bytes w64 l ≡ spelt 0 l) (sym (laid_out 8 xs e)) (eight_spell _ _ _ _ _ _ _ _)

-- words compare as the eight octets of each
pub word_order : (xs ys : List ℕ) → length xs ≡ 8 → length ys ≡ 8 → AreOctets xs → AreOctets ys → nat_cmp (from_be_bytes w64 xs) (from_be_bytes w64 ys) ≡ octets_cmp xs ys
word_order xs ys e q f h =
    ap (λ n. nat_cmp n (from_be_bytes w64 ys)) (word_spells xs e) ∙ ap (nat_cmp (spelt 0 xs)) (word_spells ys q) ∙ spelt_order xs ys 0 (e ∙ sym q) f h

then_again : (o p q : Ordering) → ordering_then o (ordering_then p q) ≡ ordering_then (ordering_then o p) q
then_again Less p q = refl
then_again Equal p q = refl
then_again Greater p q = refl

-- the first octets decide, and else those behind them
in_parts : (n : ℕ) (xs ys : List ℕ) → n ≤ length xs → n ≤ length ys → octets_cmp xs ys ≡ ordering_then (octets_cmp (take n xs) (take n ys)) (octets_cmp (drop n xs) (drop n ys))
in_parts zero xs ys f h = refl
in_parts (suc n) [] ys f h = absurd (omega (arith, f))
in_parts (suc n) (x ∷ xs) [] f h = absurd (omega (arith, h))
in_parts (suc n) (x ∷ xs) (y ∷ ys) f h =
    ap (ordering_then (nat_cmp x y)) (in_parts n xs ys (omega (arith, f)) (omega (arith, h)))
    ∙ then_again (nat_cmp x y) (octets_cmp (take n xs) (take n ys)) (octets_cmp (drop n xs) (drop n ys))

-- a string's first eight octets, and what is behind them
abbrev Parts : List ℕ → List ℕ → List ℕ → Type 0
Parts xs front rest = (front ≡ take 8 xs) × (rest ≡ drop 8 xs) × (length rest + 8 ≡ length xs)

in_words : (xs ys one more other rest : List ℕ) (r : Ordering) → Parts xs one more → Parts ys other rest → r ≡ octets_cmp one other → ordering_then r (octets_cmp more rest) ≡ octets_cmp xs ys
in_words xs ys one more other rest r p q e =
    ap (λ o. ordering_then o (octets_cmp more rest)) (e ∙ ap (λ l. octets_cmp l other) p.0 ∙ ap (octets_cmp (take 8 xs)) q.0)
    ∙ ap (ordering_then (octets_cmp (take 8 xs) (take 8 ys))) (ap (λ l. octets_cmp l rest) p.1 ∙ ap (octets_cmp (drop 8 xs)) q.1)
    ∙ sym (in_parts 8 xs ys (omega (arith, p.2)) (omega (arith, q.2)))

-- unequal words decide
pub other_words : (xs ys one more other rest : List ℕ) (r : Ordering) → Parts xs one more → Parts ys other rest → r ≡ octets_cmp one other → is_ne r ≡ true → r ≡ octets_cmp xs ys
other_words xs ys one more other rest r p q e n = first r n ∙ in_words xs ys one more other rest r p q e
  where
    first : (o : Ordering) → is_ne o ≡ true → o ≡ ordering_then o (octets_cmp more rest)
    first Less n = refl
    first Equal n = absurd (true≢false (sym n))
    first Greater n = refl

-- and behind equal ones the rest does
pub same_words : (xs ys one more other rest : List ℕ) (r : Ordering) → Parts xs one more → Parts ys other rest → r ≡ octets_cmp one other → is_ne r ≡ false → octets_cmp more rest ≡ octets_cmp xs ys
same_words xs ys one more other rest r p q e n = behind r n ∙ in_words xs ys one more other rest r p q e
  where
    behind : (o : Ordering) → is_ne o ≡ false → octets_cmp more rest ≡ ordering_then o (octets_cmp more rest)
    behind Less n = absurd (true≢false n)
    behind Equal n = refl
    behind Greater n = absurd (true≢false n)

-- the octets at a place decide, and else those behind it
at_place : (i : ℕ) (xs ys : List ℕ) → i < length xs → i < length ys → octets_cmp (drop i xs) (drop i ys) ≡ ordering_then (nat_cmp (get_or xs i 0) (get_or ys i 0)) (octets_cmp (drop (suc i) xs) (drop (suc i) ys))
at_place i xs ys f h = ap (λ l. octets_cmp l (drop i ys)) (drop-cons xs i 0 f) ∙ ap (octets_cmp (get_or xs i 0 ∷ drop (suc i) xs)) (drop-cons ys i 0 h)

decided : (a b : ℕ) (o : Ordering) → (a ≡ b → ⊥) → ordering_then (nat_cmp a b) o ≡ nat_cmp a b
decided a b o n = by (nat_cmp a b) refl
  where
    by : (p : Ordering) → nat_cmp a b ≡ p → ordering_then p o ≡ p
    by Less q = refl
    by Equal q = absurd (n (ranked a b Equal (sym q)))
    by Greater q = refl

pub same_at : (i : ℕ) (xs ys : List ℕ) → i < length xs → i < length ys → get_or xs i 0 ≡ get_or ys i 0 → octets_cmp (drop i xs) (drop i ys) ≡ octets_cmp (drop (i + 1) xs) (drop (i + 1) ys)
same_at i xs ys f h e =
    at_place i xs ys f h ∙ ap (λ o. ordering_then o (octets_cmp (drop (suc i) xs) (drop (suc i) ys))) (level (get_or xs i 0) (get_or ys i 0) e)
    ∙ ap (λ n. octets_cmp (drop n xs) (drop n ys)) (sym (add-one i))

pub other_at : (i : ℕ) (xs ys : List ℕ) → i < length xs → i < length ys → (get_or xs i 0 ≡ get_or ys i 0 → ⊥) → octets_cmp (drop i xs) (drop i ys) ≡ nat_cmp (get_or xs i 0) (get_or ys i 0)
other_at i xs ys f h n = at_place i xs ys f h ∙ decided (get_or xs i 0) (get_or ys i 0) (octets_cmp (drop (suc i) xs) (drop (suc i) ys)) n

-- where one ends, the shorter is less
pub at_end : (i : ℕ) (xs ys : List ℕ) → i ≡ min (length xs) (length ys) → octets_cmp (drop i xs) (drop i ys) ≡ nat_cmp (length xs) (length ys)
at_end zero [] [] e = refl
at_end zero [] (y ∷ ys) e = sym (below 0 (length (y ∷ ys)) (omega arith))
at_end zero (x ∷ xs) [] e = sym (above (length (x ∷ xs)) 0 (omega arith))
at_end zero (x ∷ xs) (y ∷ ys) e = absurd (omega (arith, e))
at_end (suc i) [] ys e = absurd (omega (arith, e))
at_end (suc i) (x ∷ xs) [] e = absurd (omega (arith, e))
at_end (suc i) (x ∷ xs) (y ∷ ys) e = at_end i xs ys (omega (arith, e)) ∙ more (nat_cmp (length xs) (length ys)) refl
  where
    more : (o : Ordering) → nat_cmp (length xs) (length ys) ≡ o → nat_cmp (length xs) (length ys) ≡ nat_cmp (suc (length xs)) (suc (length ys))
    more Less q = let l : length xs < length ys = ranked (length xs) (length ys) Less (sym q) in q ∙ sym (below (suc (length xs)) (suc (length ys)) (omega (arith, l)))
    more Equal q = let l : length xs ≡ length ys = ranked (length xs) (length ys) Equal (sym q) in q ∙ sym (level (suc (length xs)) (suc (length ys)) (ap suc l))
    more Greater q = let l : length ys < length xs = ranked (length xs) (length ys) Greater (sym q) in q ∙ sym (above (suc (length xs)) (suc (length ys)) (omega (arith, l)))
