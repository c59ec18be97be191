-- Names at or below the apex.
use Rattle.std.proofs.Common.{◌≡◌, ℕ, true, List, [], ◌∷◌, refl, sym, ap, ◌∙◌}
use Rattle.std.specs.Str.{str_to_ascii_lowercase}
use Rattle.dns_name.specs.Names.{Name, same_name, under}
use Rattle.zone_model.specs.Version.{Version}
use Rattle.dns_name.proofs.FoldedLabels.{equal_names, names_under}

pub under_itself : (n : Name) → under n n ≡ true
under_itself n = (names_under n n).1 ([], refl)

pub under_child : (l : List ℕ) (n a : Name) → under n a ≡ true → under (l ∷ n) a ≡ true
under_child l n a h = let u = (names_under n a).0 h in (names_under (l ∷ n) a).1 (str_to_ascii_lowercase l ∷ u.0, ap (λ x. str_to_ascii_lowercase l ∷ x) u.1)

-- a name equal to a version's apex is in its zone
pub apex_is_under : {v w : Version} (n : Name) → v ≡ w → same_name n v.apex ≡ true → under n w.apex ≡ true
apex_is_under {v} {w} n e h = (names_under n w.apex).1 ([], (equal_names n w.apex).0 (sym (λ i. same_name n (e i).apex) ∙ h))
