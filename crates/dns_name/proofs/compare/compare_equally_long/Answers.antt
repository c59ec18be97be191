use Rattle.std.proofs.Common.{◌≡◌, ◌∙◌, sym, ap, length, arith, nat_cmp}
use Rattle.std.specs.Ordering.{ordering_then}
use Rattle.std.specs.Cmp.Lexicographic.{slice_cmp}
use Rattle.dns_name.specs.Names.{spelling_cmp}
use Rattle.dns_name.proofs.Spelling.{more_in_front, then_assoc, then_equal}
use Rattle.dns_name.proofs.compare.compare_equally_long.Goals as goal

pub loop-x-init : goal.loop-x-init
loop-x-init c =
    let a = c.borrowed-left.ensures.value in
    let b = c.borrowed-right.ensures.value in
    (ap length a ∙ c.requires ∙ sym (ap length b), then_equal (spelling_cmp c.borrowed-left.result c.borrowed-right.result) ∙ (λ i. spelling_cmp (a i) (b i)))

pub loop-x-preserved : goal.loop-x-preserved
loop-x-preserved c =
    let a = c.in-Some.left_tail in
    let b = c.in-Some-split_first.right_tail in
    let x = c.in-Some.x in
    let y = c.in-Some-split_first.y in
    let ea = c.in-Some.ensures in
    let eb = c.in-Some-split_first.ensures in
    let la = ap length ea in
    let lb = ap length eb in
    let same : length a ≡ length b = omega (arith, la, lb, c.loop-x.invariant.0) in
    let order = c.cmp.ensures ∙ (λ i. slice_cmp nat_cmp (c.as_slice.ensures.value i) (c.as_slice-in-loop-x.ensures.value i)) in
    let last = c.then-last.ensures ∙ (λ i. ordering_then (order i) c.loop-x.last) in (
      same,
      ap (ordering_then (spelling_cmp a b)) last
          ∙ sym (then_assoc (spelling_cmp a b) (slice_cmp nat_cmp x y) c.loop-x.last)
          ∙ (λ i. ordering_then (sym (more_in_front x y a b same) i) c.loop-x.last)
          ∙ (λ i. ordering_then (spelling_cmp (sym ea i) (sym eb i)) c.loop-x.last)
          ∙ c.loop-x.invariant.1,
    )
