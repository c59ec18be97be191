use Rattle.std.proofs.Common.{◌∙◌, sym, bytes_eq, nat_cmp}
use Rattle.std.specs.Cmp.Lexicographic.{slice_cmp}
use Rattle.dns_name.specs.Names.{spelling_cmp}
use Rattle.zone_values.proofs.Siblings.{by_first_labels}
use Rattle.zone_values.proofs.set_key.compare_owners.Goals as goal

pub returns : goal.returns
returns c =
    let x = c.in-Some.x in
    let y = c.in-Some-split_first.y in
    let a = c.in-Some.left_tail in
    let b = c.in-Some-split_first.right_tail in
    let left = sym c.in-Some.ensures ∙ c.borrowed-left.ensures.value in
    let right = sym c.in-Some-split_first.ensures ∙ c.borrowed-right.ensures.value in
    let alike = (λ i. bytes_eq (sym c.as_slice.ensures.wire i) (sym c.as_slice-2.ensures.wire i)) ∙ sym c.eq.ensures ∙ c.if-eq.true in
    c.cmp.ensures ∙ (λ i. slice_cmp nat_cmp (c.as_slice-3.ensures.value i) (c.as_slice-4.ensures.value i))
    ∙ sym (by_first_labels x y a b c.as_slice.ensures.name c.as_slice-2.ensures.name alike) ∙ (λ i. spelling_cmp (left i) (right i))
