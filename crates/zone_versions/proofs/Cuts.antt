-- Whether a cut stands at a name or above it, name by name upwards.
use Rattle.std.proofs.Common.{◌≡◌, ℕ, Bool, true, false, not, ◌&&◌, ◌||◌, cond, List, [], ◌∷◌, length, drop, reverse, refl, sym, ap, ◌∙◌, Some, is_some, arith}
use Rattle.std.specs.List.{list_any, find, ends_with}
use Rattle.std.specs.Str.{bytes_eq}
use mathlib.Core.List.{reverse-cons}
use Rattle.std.proofs.lemmas.List.Folds.{list_any-append}
use Rattle.dns_name.specs.Names.{Name, fold, labels_eq, upwards}
use Rattle.dns_numbers.specs.Codes.{type_ns}
use Rattle.zone_model.specs.Version.{Version, set_in, is_cut}
use Rattle.zone_model.specs.Answer.{highest_cut}

or_false : (b : Bool) → (b || false) ≡ b
or_false true = refl
or_false false = refl

or_swap : (a b : Bool) → (a || b) ≡ (b || a)
or_swap true true = refl
or_swap true false = refl
or_swap false true = refl
or_swap false false = refl

pub is_some-find : {X : Type 0} (p : X → Bool) (xs : List X) → is_some (find p xs) ≡ list_any p xs
is_some-find p [] = refl
is_some-find p (x ∷ xs) =
    elim (p x) as (λ b. is_some (cond b (Some x) (find p xs)) ≡ (b || list_any p xs)) [ true ↦ refl | false ↦ is_some-find p xs ]

list_any-reverse : {X : Type 0} (p : X → Bool) (xs : List X) → list_any p (reverse xs) ≡ list_any p xs
list_any-reverse p [] = refl
list_any-reverse p (x ∷ xs) =
    ap (list_any p) (reverse-cons x xs) ∙ list_any-append p (reverse xs) (x ∷ []) ∙ ap (λ b. b || (p x || false)) (list_any-reverse p xs) ∙ ap (λ b. list_any p xs || b) (or_false (p x))
    ∙ or_swap (list_any p xs) (p x)

-- a cut stands at a name or above it where one of the names upwards is a cut
pub any_cut : (v : Version) (n : Name) → is_some (highest_cut v n) ≡ list_any (is_cut v) (upwards n)
any_cut v n = is_some-find (is_cut v) (reverse (upwards n)) ∙ list_any-reverse (is_cut v) (upwards n)

-- one name further up
pub cut_above : (v : Version) (l : List ℕ) (n m : Name) → m ≡ l ∷ n → is_cut v m ≡ false → list_any (is_cut v) (upwards m) ≡ list_any (is_cut v) (upwards n)
cut_above v l n m e none =
    ap (λ x. list_any (is_cut v) (upwards x)) e ∙ ap (λ b. b || list_any (is_cut v) (upwards n)) (sym (ap (is_cut v) e) ∙ none)

-- at the last one
pub no_cut : (v : Version) (m : Name) → m ≡ [] → is_cut v m ≡ false → list_any (is_cut v) (upwards m) ≡ false
no_cut v m e none = ap (λ x. list_any (is_cut v) (upwards x)) e ∙ or_false (is_cut v []) ∙ sym (ap (is_cut v) e) ∙ none

pub cut_here : (v : Version) (m : Name) → is_cut v m ≡ true → list_any (is_cut v) (upwards m) ≡ true
cut_here v [] h = or_false (is_cut v []) ∙ h
cut_here v (l ∷ n) h = ap (λ b. b || list_any (is_cut v) (upwards n)) h

-- ---- names that differ in case alone

cut_alike : (v : Version) (m n : Name) → fold m ≡ fold n → is_cut v m ≡ is_cut v n
cut_alike v m n e i = (ends_with bytes_eq (e i) (fold v.apex) && not (labels_eq (e i) (fold v.apex))) && is_some (set_in v.sets (e i, type_ns))

any_alike : (v : Version) (m n : Name) → fold m ≡ fold n → list_any (is_cut v) (upwards m) ≡ list_any (is_cut v) (upwards n)
any_alike v [] [] e = refl
any_alike v [] (l ∷ n) e = absurd (omega (arith, ap length e))
any_alike v (k ∷ m) [] e = absurd (omega (arith, ap length e))
any_alike v (k ∷ m) (l ∷ n) e = λ i. cut_alike v (k ∷ m) (l ∷ n) e i || any_alike v m n (ap (drop 1) e) i

-- .. lie below the same cuts
pub below_alike : (v : Version) (m n : Name) → fold m ≡ fold n → is_some (highest_cut v m) ≡ is_some (highest_cut v n)
below_alike v m n e = any_cut v m ∙ any_alike v m n e ∙ sym (any_cut v n)
