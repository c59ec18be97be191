-- Names beside one another under the same name: their first labels decide.
use Rattle.std.proofs.Common.{◌≡◌, ℕ, List, ◌∷◌, length, reverse, sym, ap, ◌∙◌, true, bytes_eq, nat_cmp, Equal}
use Rattle.std.specs.Ordering.{ordering_then}
use Rattle.std.specs.Cmp.{tied_itself}
use Rattle.std.specs.Cmp.Lexicographic.{slice_cmp, bytes_decides, lists_total, nat_list_cmp_total}
use Rattle.dns_name.specs.Names.{Name, is_name, name_wire, labels_in, spelling_cmp}
use Rattle.dns_name.proofs.NameLabels.{labels_in-name_wire}
use Rattle.dns_name.proofs.Spelling.{more_in_front}

alike : (a b : Name) → is_name a ≡ true → is_name b ≡ true → bytes_eq (name_wire a) (name_wire b) ≡ true → a ≡ b
alike a b ga gb t = sym (labels_in-name_wire a ga) ∙ ap labels_in ((bytes_decides (name_wire a) (name_wire b)).0 t) ∙ labels_in-name_wire b gb

tied : (a b : Name) → a ≡ b → spelling_cmp a b ≡ Equal
tied a b e = ap (λ (n : Name). spelling_cmp a n) (sym e) ∙ tied_itself (lists_total nat_list_cmp_total) (reverse a)

pub by_first_labels : (x y : List ℕ) (a b : Name) → is_name a ≡ true → is_name b ≡ true → bytes_eq (name_wire a) (name_wire b) ≡ true → spelling_cmp (x ∷ a) (y ∷ b) ≡ slice_cmp nat_cmp x y
by_first_labels x y a b ga gb t =
    let e = alike a b ga gb t in
    more_in_front x y a b (ap length e) ∙ ap (λ o. ordering_then o (slice_cmp nat_cmp x y)) (tied a b e)
