-- Names that are the same have wire forms of one length, and a name below another has a longer one.
use Rattle.std.proofs.Common.{◌≡◌, ℕ, ◌+◌, ◌≤◌, Bool, true, false, not, ◌&&◌, List, [], ◌∷◌, ◌++◌, length, length-append, refl, sym, ap, ◌∙◌, arith}
use Rattle.std.specs.Char.{to_ascii_lowercase}
use Rattle.std.specs.Str.{str_to_ascii_lowercase}
use Rattle.std.proofs.lemmas.List.{length-map}
use Rattle.dns_name.specs.Names.{Name, name_wire, fold, same_name, under}
use Rattle.dns_name.proofs.FoldedLabels.{names_under}
use Rattle.dns_name.proofs.WireForms.{first_wire}
use Rattle.zone_model.proofs.Folded.{same_name-Decides}

as_long_label : (l : List ℕ) → length (str_to_ascii_lowercase l) ≡ length l
as_long_label l = length-map l to_ascii_lowercase

as_long_wire : (n : Name) → length (name_wire (fold n)) ≡ length (name_wire n)
as_long_wire [] = refl
as_long_wire (l ∷ n) =
    let m = str_to_ascii_lowercase l in
    omega (
      arith,
      ap length (first_wire m (fold n)),
      ap length (first_wire l n),
      length-append m (name_wire (fold n)),
      length-append l (name_wire n),
      as_long_label l,
      as_long_wire n,
    )

-- names of other lengths are others
pub of_other_length : (m n : Name) → (length (name_wire m) ≡ length (name_wire n) → ⊥) → false ≡ same_name m n
of_other_length m n other = by (same_name m n) refl
  where
    by : (b : Bool) → same_name m n ≡ b → false ≡ b
    by true h = absurd (other (sym (as_long_wire m) ∙ ap (λ f. length (name_wire f)) ((same_name-Decides m n).0 h) ∙ as_long_wire n))
    by false h = refl

-- ---- below

-- more labels make a name longer
more_labels : (above n : Name) → length above + length (name_wire n) ≤ length (name_wire (above ++ n))
more_labels [] n = omega arith
more_labels (l ∷ above) n =
    let more = more_labels above n in
    omega (arith, ap length (first_wire l (above ++ n)), length-append l (name_wire (above ++ n)), more)

-- a name that isn't longer isn't below
pub of_short : (m n : Name) → length (name_wire m) ≤ length (name_wire n) → false ≡ (under m n && not (same_name m n))
of_short m n short = by (under m n) refl
  where
    same : (above : Name) → fold m ≡ above ++ fold n → false ≡ not (same_name m n)
    same [] e = ap not (sym ((same_name-Decides m n).1 e))
    same (l ∷ above) e =
        let more = more_labels (l ∷ above) (fold n) in
        let whole = ap (λ f. length (name_wire f)) e in
        absurd (omega (arith, short, more, whole, as_long_wire m, as_long_wire n))

    by : (b : Bool) → under m n ≡ b → false ≡ (b && not (same_name m n))
    by false h = refl
    by true h = let (above, e) = (names_under m n).0 h in same above e

and_true : (b : Bool) → b ≡ (b && true)
and_true true = refl
and_true false = refl

-- a longer one is below where it is at or below
pub of_long : (m n : Name) → (length (name_wire m) ≤ length (name_wire n) → ⊥) → under m n ≡ (under m n && not (same_name m n))
of_long m n long = and_true (under m n) ∙ ap (λ b. under m n && not b) (of_other_length m n (λ e. long (omega (arith, e))))
