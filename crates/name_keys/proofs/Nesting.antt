-- Names at or below others, by their keys.
use Rattle.std.proofs.Common.{◌≡◌, ◌↔◌, ℕ, List, ◌++◌, length, take, drop, refl, sym, ap, ◌∙◌, Decides}
use Rattle.std.specs.Prelude.{flat_map, reverse, IsTrue, eqb}
use Rattle.std.specs.List.{starts_with}
use Rattle.std.specs.Cmp.Lexicographic.{bytes_decides}
use Rattle.std.proofs.lemmas.Bool.Decides.{same_from_decides}
use Rattle.std.proofs.lemmas.Grind.{flat_map-append}
use Rattle.std.proofs.lemmas.List.{reverse-reverse, reverse-append, take-append-drop, take_at}
use Rattle.dns_name.specs.Names.{Name, fold, under}
use Rattle.dns_name.proofs.FoldedLabels.{names_under}
use Rattle.name_keys.specs.NameKeys.{label_key, name_key}
use Rattle.name_keys.proofs.Reading.{labels_of_key, read_labels, read_back}

-- what is left of a key behind the other
abbrev pub Begins : List ℕ → List ℕ → Type 0
Begins key other = (rest : List ℕ) × (key ≡ other ++ rest)

begins : (n m : Name) → IsTrue (under n m) → Begins (name_key n) (name_key m)
begins n m t =
    let (above, e) = (names_under n m).0 t in
    let turned : reverse (fold n) ≡ reverse (fold m) ++ reverse above = ap reverse e ∙ reverse-append above (fold m) in
    (flat_map label_key (reverse above), ap (flat_map label_key) turned ∙ flat_map-append label_key (reverse (fold m)) (reverse above))

lies : (n m : Name) → Begins (name_key n) (name_key m) → IsTrue (under n m)
lies n m (rest, e) =
    let above = reverse (labels_of_key rest) in
    let read : reverse (labels_of_key (name_key n)) ≡ above ++ fold m =
    ap (λ k. reverse (labels_of_key k)) e ∙ ap reverse (read_labels (reverse (fold m)) rest) ∙ reverse-append (reverse (fold m)) (labels_of_key rest)
    ∙ ap (λ ls. above ++ ls) (reverse-reverse (fold m)) in
    (names_under n m).1 (above, sym (read_back n) ∙ read)

pub under_by_keys : (n m : Name) → IsTrue (under n m) ↔ Begins (name_key n) (name_key m)
under_by_keys n m = (begins n m, lies n m)

-- one string of octets begins with another
starts : (key other : List ℕ) → Decides (starts_with eqb key other) (Begins key other)
starts key other =
    let d = bytes_decides other (take (length other) key) in (
      λ t. (drop (length other) key, sym (take-append-drop (length other) key) ∙ ap (λ k. k ++ drop (length other) key) (sym (d.0 t))),
      λ b. d.1 (sym (ap (take (length other)) b.1 ∙ take_at other b.0 (length other) refl)),
    )

pub under_by_test : (n m : Name) → under n m ≡ starts_with eqb (name_key n) (name_key m)
under_by_test n m =
    let d : Decides (under n m) (Begins (name_key n) (name_key m)) = under_by_keys n m in
    same_from_decides (under n m) (starts_with eqb (name_key n) (name_key m)) d (starts (name_key n) (name_key m))
