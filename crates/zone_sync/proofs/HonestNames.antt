-- A name that is the same as one of the grammar is one itself.
use Rattle.std.proofs.Common.{◌≡◌, ℕ, ◌<◌, Bool, true, nat_lt, List, [], ◌∷◌, length, length-append, map, refl, sym, ap, ◌∙◌, arith, ltb-true, lt-ltb}
use Rattle.std.specs.List.{list_all}
use Rattle.std.specs.Char.{to_ascii_lowercase}
use Rattle.std.specs.Str.{str_to_ascii_lowercase}
use Rattle.std.proofs.lemmas.Bool.{and_parts}
use Rattle.std.proofs.lemmas.Bool.Decides.{nat_tests}
use Rattle.std.proofs.lemmas.List.{length-map}
use Rattle.dns_name.specs.Names.{Name, is_label, is_name, name_wire, fold, same_name}
use Rattle.dns_name.proofs.WireForms.{name_labels, name_short, label_some, label_short, label_octets, first_wire, fold_is_name}
use Rattle.zone_model.proofs.Folded.{same_name-Decides}

abbrev are_octets : List ℕ → Bool
are_octets l = list_all (λ c. nat_lt c 256) l

unlowered : (c : ℕ) → to_ascii_lowercase c < 256 → c < 256
unlowered c h = grind (arith, nat_tests)

unlowered_octets : (l : List ℕ) → are_octets (map to_ascii_lowercase l) ≡ true → are_octets l ≡ true
unlowered_octets [] h = refl
unlowered_octets (c ∷ l) h =
    let parts = and_parts (nat_lt (to_ascii_lowercase c) 256) (are_octets (map to_ascii_lowercase l)) h in
    rw (lt-ltb c 256 (unlowered c (ltb-true (to_ascii_lowercase c) 256 parts.0)), unlowered_octets l parts.1) refl

as_long : (l : List ℕ) → length (str_to_ascii_lowercase l) ≡ length l
as_long l = length-map l to_ascii_lowercase

unlowered_label : (l : List ℕ) → is_label (str_to_ascii_lowercase l) ≡ true → is_label l ≡ true
unlowered_label l h =
    let m = str_to_ascii_lowercase l in
    let some : nat_lt 0 (length l) ≡ true = lt-ltb _ _ (omega (arith, label_some m h, as_long l)) in
    let short : nat_lt (length l) 64 ≡ true = lt-ltb _ _ (omega (arith, label_short m h, as_long l)) in
    rw (some, short, unlowered_octets l (label_octets m h)) refl

unfolded_labels : (n : Name) → list_all is_label (fold n) ≡ true → list_all is_label n ≡ true
unfolded_labels [] h = refl
unfolded_labels (l ∷ n) h =
    let parts = and_parts (is_label (str_to_ascii_lowercase l)) (list_all is_label (fold n)) h in
    rw (unlowered_label l parts.0, unfolded_labels n parts.1) refl

as_long_wire : (n : Name) → length (name_wire (fold n)) ≡ length (name_wire n)
as_long_wire [] = refl
as_long_wire (l ∷ n) =
    let m = str_to_ascii_lowercase l in
    omega (
      arith,
      ap length (first_wire m (fold n)),
      ap length (first_wire l n),
      length-append m (name_wire (fold n)),
      length-append l (name_wire n),
      as_long l,
      as_long_wire n,
    )

unfolded_name : (n : Name) → is_name (fold n) ≡ true → is_name n ≡ true
unfolded_name n h =
    rw (unfolded_labels n (name_labels (fold n) h), lt-ltb (length (name_wire n)) 256 (omega (arith, name_short (fold n) h, as_long_wire n))) refl

pub same_is_name : (m n : Name) → same_name m n ≡ true → is_name m ≡ true → is_name n ≡ true
same_is_name m n same h =
    let folds : fold n ≡ fold m = sym ((same_name-Decides m n).0 same) in
    unfolded_name n (ap is_name folds ∙ fold_is_name m h)
