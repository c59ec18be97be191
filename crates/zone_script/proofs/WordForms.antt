-- Which words ask for a transfer.
use Rattle.std.proofs.Common.{◌≡◌, ◌≢◌, ◌<◌, ℕ, ◌^◌, Bool, true, false, if◌then◌else◌, List, [], ◌∷◌, length, map, refl, sym, ap, arith, ◌∙◌, Option, Some, None, codes, bytes_eq}
use Rattle.std.specs.Prelude.{option_map, option_and_then}
use Rattle.std.proofs.lemmas.Grind.{common_steps}
use Rattle.std.proofs.lemmas.Slice.Eq.{bytes_eq-Decides}
use Rattle.zone_model.specs.TransferText.{Mode, Axfr, Ixfr}
use Rattle.zone_script.specs.ScriptLines.{number_of, number_below}
use Rattle.zone_script.specs.Digits.{below}
use Rattle.zone_script.specs.Words.{Form, Transfer, Generate, form_of, with_readers, with_sizes, between}

not_none : {A : Type 0} (x : A) → None ≢ Some x
not_none x h = cc

not_generated : (n s : ℕ) (m : Mode) (k : ℕ) → Some (Generate n s) ≢ Some (Transfer m k)
not_generated n s m k h = cc

sizes_other : (more : List (List ℕ)) (m : Mode) (k : ℕ) → with_sizes more ≢ Some (Transfer m k)
sizes_other [] m k = not_none (Transfer m k)
sizes_other (n ∷ []) m k = not_none (Transfer m k)
sizes_other (n ∷ seed ∷ []) m k = by (option_and_then (between 1 100000) (number_of n)) (number_below (2 ^ 64) seed)
  where
    by : (a b : Option ℕ) → option_and_then (λ x. option_map (Generate x) b) a ≢ Some (Transfer m k)
    by None b = not_none (Transfer m k)
    by (Some x) None = not_none (Transfer m k)
    by (Some x) (Some y) = not_generated x y m k
sizes_other (n ∷ seed ∷ x ∷ more) m k = not_none (Transfer m k)

-- the first word
pub is_axfr : (w : List ℕ) → bytes_eq w (codes "axfr") ≡ true → (more : List (List ℕ)) → form_of (w ∷ more) ≡ with_readers Axfr more
is_axfr w h more = ap (λ b. if b then with_readers Axfr more else if bytes_eq w (codes "ixfr") then with_readers Ixfr more else if bytes_eq w (codes "gen") then with_sizes more else None) h

pub is_ixfr : (w : List ℕ) → bytes_eq w (codes "axfr") ≡ false → bytes_eq w (codes "ixfr") ≡ true → (more : List (List ℕ)) → form_of (w ∷ more) ≡ with_readers Ixfr more
is_ixfr w g h more =
    ap (λ b. if b then with_readers Axfr more else if bytes_eq w (codes "ixfr") then with_readers Ixfr more else if bytes_eq w (codes "gen") then with_sizes more else None) g
    ∙ ap (λ b. if b then with_readers Ixfr more else if bytes_eq w (codes "gen") then with_sizes more else None) h

pub is_other : (w : List ℕ) → bytes_eq w (codes "axfr") ≡ false → bytes_eq w (codes "ixfr") ≡ false → (more : List (List ℕ)) (m : Mode) (k : ℕ) → form_of (w ∷ more) ≢ Some (Transfer m k)
is_other w g h more m k e = by (bytes_eq w (codes "gen")) (sym reduced ∙ e)
  where
    reduced : form_of (w ∷ more) ≡ (if bytes_eq w (codes "gen") then with_sizes more else None)
    reduced =
        ap (λ b. if b then with_readers Axfr more else if bytes_eq w (codes "ixfr") then with_readers Ixfr more else if bytes_eq w (codes "gen") then with_sizes more else None) g
        ∙ ap (λ b. if b then with_readers Ixfr more else if bytes_eq w (codes "gen") then with_sizes more else None) h

    by : (b : Bool) → (if b then with_sizes more else None) ≡ Some (Transfer m k) → ⊥
    by true f = sizes_other more m k f
    by false f = not_none (Transfer m k) f

-- a second word that is no number of readers
pub no_readers : (n m : Mode) (k : ℕ) (form : Option Form) (found : Option ℕ) → form ≡ option_map (Transfer n) found → found ≡ None → form ≢ Some (Transfer m k)
no_readers n m k form found e none h = not_none (Transfer m k) (ap (option_map (Transfer n)) (sym none) ∙ sym e ∙ h)

-- more words than two, or none
too_many : (w k l : List ℕ) (more : List (List ℕ)) (m : Mode) (readers : ℕ) → form_of (w ∷ k ∷ l ∷ more) ≢ Some (Transfer m readers)
too_many w k l more m readers e = by (bytes_eq w (codes "axfr")) (bytes_eq w (codes "ixfr")) (bytes_eq w (codes "gen")) e
  where
    by : (a b c : Bool) → (if a then None else if b then None else if c then with_sizes (k ∷ l ∷ more) else None) ≡ Some (Transfer m readers) → ⊥
    by true b c f = not_none (Transfer m readers) f
    by false true c f = not_none (Transfer m readers) f
    by false false true f = sizes_other (k ∷ l ∷ more) m readers f
    by false false false f = not_none (Transfer m readers) f

pub other_count : {A : Type 0} (f : A → List ℕ) (words : List A) → length words ≢ 1 → length words ≢ 2 → (m : Mode) (readers : ℕ) → form_of (map f words) ≢ Some (Transfer m readers)
other_count f [] one two m readers e = not_none (Transfer m readers) e
other_count f (w ∷ []) one two m readers e = one refl
other_count f (w ∷ k ∷ []) one two m readers e = two refl
other_count f (w ∷ k ∷ l ∷ more) one two m readers e = too_many (f w) (f k) (f l) (map f more) m readers e

-- ---- the zone that is made from numbers

-- 1 to 100,000, of a number below 100,001: none where there is none, none for 0, else the number
counted : (n : Option ℕ) → option_and_then (between 1 100000) n ≡ option_and_then (between 1 100000) (below 100001 n)
counted None = refl
counted (Some k) = grind (arith, common_steps)

pub no_count : (digits : List ℕ) → number_below 100001 digits ≡ None → option_and_then (between 1 100000) (number_of digits) ≡ None
no_count digits e = counted (number_of digits) ∙ ap (option_and_then (between 1 100000)) e

pub some_count : (digits : List ℕ) (k : ℕ) → number_below 100001 digits ≡ Some k → k ≢ 0 → k < 100001 → option_and_then (between 1 100000) (number_of digits) ≡ Some k
some_count digits k e some few = counted (number_of digits) ∙ ap (option_and_then (between 1 100000)) e ∙ grind (arith, common_steps)

pub zero_count : (digits : List ℕ) (k : ℕ) → number_below 100001 digits ≡ Some k → k ≡ 0 → option_and_then (between 1 100000) (number_of digits) ≡ None
zero_count digits k e none = counted (number_of digits) ∙ ap (option_and_then (between 1 100000)) e ∙ ap (between 1 100000) none

-- the word `gen`, and another one
pub is_gen : (w : List ℕ) → bytes_eq w (codes "gen") ≡ true → (more : List (List ℕ)) → form_of (w ∷ more) ≡ with_sizes more
is_gen w h more = ap (λ v. form_of (v ∷ more)) ((bytes_eq-Decides w (codes "gen")).0 h)

pub is_not_gen : (w : List ℕ) → bytes_eq w (codes "gen") ≡ false → (more : List (List ℕ)) (n s : ℕ) → form_of (w ∷ more) ≢ Some (Generate n s)
is_not_gen w h more n s e =
    by (bytes_eq w (codes "axfr")) (bytes_eq w (codes "ixfr"))
    (sym (ap (λ b. if bytes_eq w (codes "axfr") then with_readers Axfr more else if bytes_eq w (codes "ixfr") then with_readers Ixfr more else if b then with_sizes more else None) h) ∙ e)
  where
    readers_other : (m : Mode) (ws : List (List ℕ)) → with_readers m ws ≢ Some (Generate n s)
    readers_other m [] f = cc
    readers_other m (k ∷ []) f = by_count (number_below 17 k) f
      where
        by_count : (c : Option ℕ) → option_map (Transfer m) c ≡ Some (Generate n s) → ⊥
        by_count None g = cc
        by_count (Some x) g = cc
    readers_other m (k ∷ l ∷ rest) f = cc

    by : (a b : Bool) → (if a then with_readers Axfr more else if b then with_readers Ixfr more else None) ≡ Some (Generate n s) → ⊥
    by true b f = readers_other Axfr more f
    by false true f = readers_other Ixfr more f
    by false false f = cc
