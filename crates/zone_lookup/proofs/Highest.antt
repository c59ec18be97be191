-- The highest cut, name by name upwards.
use Rattle.std.proofs.Common.{◌≡◌, ℕ, Bool, true, false, cond, List, [], ◌∷◌, ◌++◌, reverse, refl, sym, ap, ◌∙◌, Option, Some, None}
use Rattle.std.specs.List.{find}
use Rattle.std.specs.Option.{option_or}
use mathlib.Core.List.{reverse-cons}
use Rattle.std.proofs.lemmas.List.Folds.{find-append}
use Rattle.dns_name.specs.Names.{Name, upwards}
use Rattle.zone_model.specs.Version.{Version, is_cut}
use Rattle.zone_model.specs.Answer.{highest_cut}

or_none : {X : Type 0} (o : Option X) → option_or o None ≡ o
or_none None = refl
or_none (Some x) = refl

or_assoc : {X : Type 0} (a b c : Option X) → option_or (option_or a b) c ≡ option_or a (option_or b c)
or_assoc None b c = refl
or_assoc (Some x) b c = refl

-- the cut of a name is that of the name above it, or else itself
above : (v : Version) (l : List ℕ) (n : Name) → highest_cut v (l ∷ n) ≡ option_or (highest_cut v n) (cond (is_cut v (l ∷ n)) (Some (l ∷ n)) None)
above v l n = ap (find (is_cut v)) (reverse-cons (l ∷ n) (upwards n)) ∙ find-append (is_cut v) (reverse (upwards n)) ((l ∷ n) ∷ [])

-- a name that is a cut
pub step_cut : (v : Version) (m n : Name) (l : List ℕ) (found : Option Name) → m ≡ l ∷ n → is_cut v m ≡ true → option_or (highest_cut v m) found ≡ option_or (highest_cut v n) (Some m)
step_cut v m n l found e h =
    ap (λ x. option_or (highest_cut v x) found) e ∙ ap (λ o. option_or o found) (above v l n)
    ∙ or_assoc (highest_cut v n) (cond (is_cut v (l ∷ n)) (Some (l ∷ n)) None) found
    ∙ ap (λ b. option_or (highest_cut v n) (option_or (cond b (Some (l ∷ n)) None) found)) (sym (ap (is_cut v) e) ∙ h) ∙ ap (λ x. option_or (highest_cut v n) (Some x)) (sym e)

-- a name that is none
pub step_on : (v : Version) (m n : Name) (l : List ℕ) (found : Option Name) → m ≡ l ∷ n → is_cut v m ≡ false → option_or (highest_cut v m) found ≡ option_or (highest_cut v n) found
step_on v m n l found e h =
    ap (λ x. option_or (highest_cut v x) found) e ∙ ap (λ o. option_or o found) (above v l n)
    ∙ or_assoc (highest_cut v n) (cond (is_cut v (l ∷ n)) (Some (l ∷ n)) None) found
    ∙ ap (λ b. option_or (highest_cut v n) (option_or (cond b (Some (l ∷ n)) None) found)) (sym (ap (is_cut v) e) ∙ h)

-- at the root
pub last_cut : (v : Version) (m : Name) (found : Option Name) → m ≡ [] → is_cut v m ≡ true → option_or (highest_cut v m) found ≡ Some m
last_cut v m found e h = ap (λ x. option_or (highest_cut v x) found) e ∙ ap (λ b. option_or (cond b (Some []) None) found) (sym (ap (is_cut v) e) ∙ h) ∙ ap (λ x. Some x) (sym e)

pub last_none : (v : Version) (m : Name) (found : Option Name) → m ≡ [] → is_cut v m ≡ false → option_or (highest_cut v m) found ≡ found
last_none v m found e h = ap (λ x. option_or (highest_cut v x) found) e ∙ ap (λ b. option_or (cond b (Some []) None) found) (sym (ap (is_cut v) e) ∙ h)

pub at_first : (v : Version) (n : Name) → highest_cut v n ≡ option_or (highest_cut v n) None
at_first v n = sym (or_none (highest_cut v n))
