-- The closest encloser, name by name upwards.
use Rattle.std.proofs.Common.{◌≡◌, ℕ, Bool, true, false, ◌||◌, cond, List, [], ◌∷◌, ◌++◌, drop, refl, sym, ap, ◌∙◌, true≢false, Option, Some, None, unwrap_or}
use Rattle.std.specs.List.{find, list_any}
use Rattle.dns_name.specs.Names.{Name, fold, same_name, under, upwards}
use Rattle.dns_name.proofs.FoldedLabels.{equal_names, names_under}
use Rattle.zone_model.specs.Version.{RecordSet, Key, Version, exists}
use Rattle.zone_model.specs.Answer.{closest_encloser}

pub not_here : (v : Version) (m n : Name) (l : List ℕ) → m ≡ l ∷ n → exists v m ≡ false → closest_encloser v m ≡ closest_encloser v n
not_here v m n l e h =
    ap (closest_encloser v) e ∙ ap (λ b. unwrap_or (cond b (Some (l ∷ n)) (find (exists v) (upwards n))) v.apex) (sym (ap (exists v) e) ∙ h)

pub is_here : (v : Version) (n : Name) → exists v n ≡ true → closest_encloser v n ≡ n
is_here v [] h = ap (λ b. unwrap_or (cond b (Some []) None) v.apex) h
is_here v (l ∷ n) h = ap (λ b. unwrap_or (cond b (Some (l ∷ n)) (find (exists v) (upwards n))) v.apex) h

not_under : (a b : Bool) → (a || b) ≡ false → a ≡ false
not_under true b h = absurd (true≢false h)
not_under false b h = refl

-- what doesn't exist isn't the apex
pub not_apex : (v : Version) (n : Name) → exists v n ≡ false → same_name n v.apex ≡ false
not_apex v n h = not_under (same_name n v.apex) (list_any (λ (e : Key × RecordSet). under e.0.0 n) v.sets) h

-- the name above one that is in the zone and doesn't exist is in the zone too
pub parent_inside : (v : Version) (m n : Name) (l : List ℕ) → m ≡ l ∷ n → under m v.apex ≡ true → exists v m ≡ false → under n v.apex ≡ true
parent_inside v m n l e t h =
    let u = (names_under (l ∷ n) v.apex).0 (ap (λ x. under x v.apex) (sym e) ∙ t) in
    by u.0 u.1
  where
    out : same_name (l ∷ n) v.apex ≡ false
    out = ap (λ x. same_name x v.apex) (sym e) ∙ not_apex v m h

    by : (above : Name) → fold (l ∷ n) ≡ above ++ fold v.apex → under n v.apex ≡ true
    by [] p = absurd (true≢false (sym ((equal_names (l ∷ n) v.apex).1 p) ∙ out))
    by (x ∷ xs) p = (names_under n v.apex).1 (xs, ap (drop 1) p)

abbrev is_root : Name → Bool
is_root [] = true
is_root (l ∷ n) = false

-- the root is in no zone where it doesn't exist
pub root_outside : (v : Version) (m : Name) → m ≡ [] → under m v.apex ≡ true → exists v m ≡ false → ⊥
root_outside v m e t h =
    let u = (names_under [] v.apex).0 (ap (λ x. under x v.apex) (sym e) ∙ t) in
    by u.0 u.1
  where
    out : same_name [] v.apex ≡ false
    out = ap (λ x. same_name x v.apex) (sym e) ∙ not_apex v m h

    by : (above : Name) → fold [] ≡ above ++ fold v.apex → ⊥
    by [] p = true≢false (sym ((equal_names [] v.apex).1 p) ∙ out)
    by (x ∷ xs) p = true≢false (ap is_root p)
