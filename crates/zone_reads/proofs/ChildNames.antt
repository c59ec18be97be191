-- A label below a name.
use Rattle.std.proofs.Common.{◌≡◌, ℕ, zero, suc, ◌+◌, ◌<◌, ◌≤◌, ◌==◌, true, false, List, [], ◌∷◌, ◌++◌, length, length-append, refl, sym, ap, ◌∙◌, true≢false, eq-eqb, arith, lt-ltb}
use Rattle.std.specs.Prelude.{IsTrue, flat_map, nat_lt}
use Rattle.std.specs.List.{list_all}
use Rattle.std.specs.Cmp.Derive.{both_true}
use Rattle.std.specs.Cmp.{first_so}
use Rattle.std.proofs.lemmas.List.{append_assoc}
use Rattle.dns_name.specs.Names.{Name, name_wire, label_wire, is_label, is_name, labels_in}
use Rattle.dns_name.proofs.NameLabels.{labels_in-name_wire}

some : (n : ℕ) → (n == 0) ≡ false → 0 < n
some n h = by n refl
  where
    by : (m : ℕ) → n ≡ m → 0 < n
    by zero e = absurd (true≢false (sym (eq-eqb n 0 e) ∙ h))
    by (suc m) e = omega arith

-- what is put together: nothing, then a label after its length, then a name
pub record Joined (l : List ℕ) (n : Name) (whole : List ℕ) : Type 0 where
  pub spelled : whole ≡ name_wire (l ∷ n)
  pub named : IsTrue (is_name (l ∷ n))

pub joined : (l : List ℕ) (n : Name) (start first wire whole : List ℕ) → start ≡ [] → first ≡ start ++ length l ∷ l → wire ≡ name_wire n → whole ≡ first ++ wire → length first + length wire ≤ 255
    → (length l == 0) ≡ false → length l ≤ 63 → list_all (λ c. nat_lt c 256) l ≡ true → IsTrue (is_name n) → Joined l n whole
joined l n start first wire whole es ef ew e few filled short octets named = record { spelled = spelled; named = is_named }
  where
    spelled : whole ≡ name_wire (l ∷ n)
    spelled = e ∙ ap (λ o. o ++ wire) (ef ∙ ap (λ o. o ++ length l ∷ l) es) ∙ ap (λ o. label_wire l ++ o) ew ∙ sym (append_assoc (label_wire l) (flat_map label_wire n) (0 ∷ []))

    long : length (name_wire (l ∷ n)) < 256
    long =
        let a = ap length spelled in
        let b = ap length e in
        let d = length-append first wire in
        omega (arith, a, b, d, few)

    is_named : IsTrue (is_name (l ∷ n))
    is_named =
        let label : is_label l ≡ true = both_true (both_true (lt-ltb 0 (length l) (some (length l) filled)) (lt-ltb (length l) 64 (omega (arith, short)))) octets in
        both_true (both_true label (first_so (list_all is_label n) _ named)) (lt-ltb (length (name_wire (l ∷ n))) 256 long)

pub joined_labels : (l : List ℕ) (n : Name) (whole : List ℕ) → Joined l n whole → labels_in whole ≡ l ∷ n
joined_labels l n whole h = ap labels_in h.spelled ∙ labels_in-name_wire (l ∷ n) h.named

pub joined_named : (l : List ℕ) (n : Name) (whole : List ℕ) → Joined l n whole → IsTrue (is_name (labels_in whole))
joined_named l n whole h = ap is_name (joined_labels l n whole h) ∙ h.named

pub joined_spelled : (l : List ℕ) (n : Name) (whole : List ℕ) → Joined l n whole → name_wire (labels_in whole) ≡ whole
joined_spelled l n whole h = ap name_wire (joined_labels l n whole h) ∙ sym h.spelled
