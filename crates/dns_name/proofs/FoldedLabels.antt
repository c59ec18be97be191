-- Comparisons of names by their folded labels.
use Rattle.std.proofs.Common.{◌≡◌, ◌↔◌, ℕ, ◌-◌, true, ◌++◌, length, length-append, take, drop, refl, sym, ap, ◌∙◌, arith, Less, Equal, Greater}
use Rattle.std.specs.Prelude.{IsTrue}
use Rattle.std.specs.Ordering.{is_eq}
use Rattle.std.specs.List.{ends_with}
use Rattle.std.specs.Str.{bytes_eq}
use Rattle.std.specs.declared.cmp.Ordering.{Ordering}
use Rattle.std.specs.Cmp.Lexicographic.{pointwise, pointwise_decides, bytes_decides}
use Rattle.std.proofs.lemmas.List.{take-append-drop, drop_at}
use Rattle.dns_name.specs.Names.{Name, fold, same_name, under, canonical_cmp}
use Rattle.dns_name.specs.NameOrder.{canonical_ties}

pub equal_names : (a b : Name) → IsTrue (same_name a b) ↔ (fold a ≡ fold b)
equal_names a b = pointwise_decides bytes_decides (fold a) (fold b)

-- one list ends with another where something before that one makes it up
ends : (a b : Name) → IsTrue (ends_with bytes_eq a b) ↔ ((above : Name) × (a ≡ above ++ b))
ends a b = (ends_so, made_so)
  where
    k : ℕ
    k = length a - length b

    test : IsTrue (pointwise bytes_eq b (drop k a)) ↔ (b ≡ drop k a)
    test = pointwise_decides bytes_decides b (drop k a)

    ends_so : IsTrue (ends_with bytes_eq a b) → (above : Name) × (a ≡ above ++ b)
    ends_so t = (take k a, sym (take-append-drop k a) ∙ ap (λ r. take k a ++ r) (sym (test.0 t)))

    made_so : (above : Name) × (a ≡ above ++ b) → IsTrue (ends_with bytes_eq a b)
    made_so (above, e) =
        let long = ap length e in
        let both = length-append above b in
        test.1 (sym (ap (drop k) e ∙ drop_at above b k (omega (arith, long, both))))

pub names_under : (a b : Name) → IsTrue (under a b) ↔ ((above : Name) × (fold a ≡ above ++ fold b))
names_under a b = ends (fold a) (fold b)

equal_is : (o : Ordering) → is_eq o ≡ true → o ≡ Equal
equal_is Less h = absurd (cc h)
equal_is Equal h = refl
equal_is Greater h = absurd (cc h)

pub names_tied : (a b : Name) → (canonical_cmp a b ≡ Equal) ↔ (fold a ≡ fold b)
names_tied a b =
    let tie = canonical_ties a b in
    let same = equal_names a b in
    (λ e. same.0 (tie ∙ ap is_eq e), λ e. equal_is (canonical_cmp a b) (sym tie ∙ same.1 e))
