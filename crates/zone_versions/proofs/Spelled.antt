-- A name that is spelled as another with labels before it is at or below that.
use Rattle.std.proofs.Common.{◌≡◌, ℕ, true, List, [], ◌∷◌, sym, ap, ◌∙◌, bytes_eq}
use Rattle.std.specs.Str.{str_to_ascii_lowercase}
use Rattle.std.specs.Cmp.Lexicographic.{pointwise_decides, bytes_decides}
use Rattle.dns_name.specs.Names.{Name, is_name, name_wire, fold, under}
use Rattle.dns_name.proofs.FoldedLabels.{names_under}
use Rattle.dns_name.proofs.Spelling.{wires_alike}

-- one label more
pub under_more : (l : List ℕ) (n b m : Name) → m ≡ l ∷ n → under n b ≡ true → under m b ≡ true
under_more l n b m e h =
    let (above, f) = (names_under n b).0 h in
    (names_under m b).1 (str_to_ascii_lowercase l ∷ above, ap fold e ∙ ap (λ x. str_to_ascii_lowercase l ∷ x) f)

-- the same octets
pub under_itself : (n b : Name) → is_name n ≡ true → is_name b ≡ true → bytes_eq (name_wire n) (name_wire b) ≡ true → under n b ≡ true
under_itself n b gn gb h =
    (names_under n b).1 ([], ap fold ((pointwise_decides bytes_decides n b).0 (sym (wires_alike n b gn gb) ∙ h)))
