use Rattle.std.proofs.Common.{◌∙◌, ◌-◌, sym, ap, length, arith, drop, nat_cmp}
use Rattle.std.specs.Ordering.{ordering_then}
use Rattle.dns_name.specs.Names.{spelling_cmp}
use Rattle.dns_name.proofs.Spelling.{by_common_labels}
use Rattle.dns_name.proofs.compare.compare_spelling.Goals as goal

pub returns : goal.returns
returns c =
    let a = c.args.a.now in
    let b = c.args.b.now in
    let k = c.min-common.result in
    let m = c.label_count-m.ensures.value ∙ ap length c.borrowed-left.ensures.value in
    let n = c.label_count-n.ensures.value ∙ ap length c.borrowed-right.ensures.value in
    let left = c.without_first.ensures ∙ (λ i. drop (m i - k) (c.borrowed-left.ensures.value i)) in
    let right = c.without_first-2.ensures ∙ (λ i. drop (n i - k) (c.borrowed-right.ensures.value i)) in
    let labels = c.compare_equally_long-order.ensures ∙ (λ i. spelling_cmp (left i) (right i)) in
    let numbers = c.cmp.ensures ∙ (λ i. nat_cmp (m i) (n i)) in
    let least = c.min-common.ensures in
    c.then.ensures ∙ (λ i. ordering_then (labels i) (numbers i))
    ∙ sym (by_common_labels a b k (omega (arith, m, n, least)) (omega (arith, m, n, least)) (λ z. omega (arith, m, n, least, z)))
