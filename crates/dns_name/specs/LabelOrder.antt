-- The laws of comparisons of labels: equality without case, and their order (RFC 4343, 3; RFC 4034, 6.1).
use Rattle.std.specs.Prelude.{◌≡◌, ℕ, Bool, List, IsTrue, Some}
use Rattle.std.specs.Ordering.{eq_by_cmp, nat_cmp}
use Rattle.std.specs.declared.cmp.Ordering.{Ordering}
use Rattle.std.specs.Hash.{HashWrites, slice, u8}
use Rattle.std.specs.Str.{bytes_eq, str_to_ascii_lowercase}
use Rattle.std.specs.Cmp.{IsTotalOrder, IsEquivalence, IsPartialEquivalence, IsPartialOrder, on_total, on_equiv, partial_equiv_from_equiv, partial_order_from_agreeing_total}
use Rattle.std.specs.Cmp.Lexicographic.{slice_cmp, bytes_decides, texts_ties, nat_list_cmp_total, nat_list_eq_equiv}
use Rattle.std.proofs.Common.{refl, ap}

-- whether two labels are equal, ASCII case aside
abbrev pub same_label : List ℕ → List ℕ → Bool
same_label a b = bytes_eq (str_to_ascii_lowercase a) (str_to_ascii_lowercase b)

pub same_label_equiv : IsEquivalence same_label
same_label_equiv = on_equiv str_to_ascii_lowercase nat_list_eq_equiv

pub same_label_per : IsPartialEquivalence same_label
same_label_per = partial_equiv_from_equiv same_label_equiv

-- labels in lower case, as strings of octets
abbrev pub label_cmp : List ℕ → List ℕ → Ordering
label_cmp a b = slice_cmp nat_cmp (str_to_ascii_lowercase a) (str_to_ascii_lowercase b)

pub label_total : IsTotalOrder label_cmp
label_total = on_total str_to_ascii_lowercase nat_list_cmp_total

pub label_ties : (a b : List ℕ) → same_label a b ≡ eq_by_cmp label_cmp a b
label_ties a b = texts_ties (str_to_ascii_lowercase a) (str_to_ascii_lowercase b)

pub label_po : IsPartialOrder same_label (λ a b. Some (label_cmp a b))
label_po = partial_order_from_agreeing_total label_cmp label_total (λ a b. refl) label_ties

-- what a label gives to a hash: its octets in lower case
abbrev pub label_hash : List ℕ → HashWrites
label_hash a = slice u8 (str_to_ascii_lowercase a)

pub same_label_hash : (a b : List ℕ) → IsTrue (same_label a b) → label_hash a ≡ label_hash b
same_label_hash a b e = ap (slice u8) ((bytes_decides (str_to_ascii_lowercase a) (str_to_ascii_lowercase b)).0 e)
