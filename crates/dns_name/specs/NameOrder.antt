-- The laws of comparisons of names: equality without case, and canonical order (RFC 4343, 3; RFC 4034, 6.1).
use Rattle.std.specs.Prelude.{◌≡◌, reverse, IsTrue, Some}
use Rattle.std.specs.Ordering.{eq_by_cmp, nat_cmp}
use Rattle.std.specs.Hash.{HashWrites, slice, u8}
use Rattle.std.specs.Cmp.{IsTotalOrder, IsEquivalence, IsPartialEquivalence, IsPartialOrder, on_total, on_equiv, partial_equiv_from_equiv, partial_order_from_agreeing_total}
use Rattle.std.specs.Cmp.Lexicographic.{slice_cmp, pointwise_decides, bytes_decides, lists_total, lists_ties, lists_equiv, texts_ties, nat_list_cmp_total, nat_list_eq_equiv}
use Rattle.std.proofs.Common.{refl, sym, ap, ◌∙◌, Decides}
use Rattle.std.proofs.lemmas.Bool.Decides.{same_from_decides}
use Rattle.std.proofs.lemmas.List.{reverse-reverse}
use Rattle.dns_name.specs.Names.{Name, name_wire, fold, same_name, canonical_cmp, labels_eq}

pub same_name_equiv : IsEquivalence same_name
same_name_equiv = on_equiv fold (lists_equiv nat_list_eq_equiv)

pub same_name_per : IsPartialEquivalence same_name
same_name_per = partial_equiv_from_equiv same_name_equiv

pub canonical_total : IsTotalOrder canonical_cmp
canonical_total = on_total (λ (n : Name). reverse (fold n)) (lists_total nat_list_cmp_total)

-- labels are alike where they are in reverse
reversed_alike : (a b : Name) → labels_eq a b ≡ labels_eq (reverse a) (reverse b)
reversed_alike a b =
    let r = pointwise_decides bytes_decides (reverse a) (reverse b) in
    let back : Decides (labels_eq (reverse a) (reverse b)) (a ≡ b) =
    (λ t. sym (reverse-reverse a) ∙ ap reverse (r.0 t) ∙ reverse-reverse b, λ e. r.1 (ap reverse e)) in
    same_from_decides _ (labels_eq (reverse a) (reverse b)) (pointwise_decides bytes_decides a b) back

pub canonical_ties : (a b : Name) → same_name a b ≡ eq_by_cmp canonical_cmp a b
canonical_ties a b = reversed_alike (fold a) (fold b) ∙ lists_ties (slice_cmp nat_cmp) texts_ties (reverse (fold a)) (reverse (fold b))

pub canonical_po : IsPartialOrder same_name (λ a b. Some (canonical_cmp a b))
canonical_po = partial_order_from_agreeing_total canonical_cmp canonical_total (λ a b. refl) canonical_ties

-- what a name gives to a hash: its wire form in lower case
abbrev pub name_hash : Name → HashWrites
name_hash n = slice u8 (name_wire (fold n))

pub same_hash : (a b : Name) → IsTrue (same_name a b) → name_hash a ≡ name_hash b
same_hash a b e = ap (λ n. slice u8 (name_wire n)) ((pointwise_decides bytes_decides (fold a) (fold b)).0 e)
