use Rattle.std.proofs.Common.{◌<◌, ◌∙◌, sym, length, arith}
use Rattle.paged_map.proofs.Words.{same_at, other_at, at_end}
use Rattle.paged_map.proofs.marks.compare_octets.Goals as goal

pub loop-i-preserved : goal.loop-i-preserved
loop-i-preserved c =
    let one : c.loop-i.i < length c.args.left.now = omega (arith, c.loop-i-test.true, c.min-common.ensures) in
    let other : c.loop-i.i < length c.args.right.now = omega (arith, c.loop-i-test.true, c.min-common.ensures) in
    sym (same_at c.loop-i.i c.args.left.now c.args.right.now one other c.if-left-i.false) ∙ c.loop-i.invariant

pub returns-then-left-i : goal.returns-then-left-i
returns-then-left-i c =
    let one : c.loop-i.i < length c.args.left.now = omega (arith, c.loop-i-test.true, c.min-common.ensures) in
    let other : c.loop-i.i < length c.args.right.now = omega (arith, c.loop-i-test.true, c.min-common.ensures) in
    c.cmp.ensures ∙ sym (other_at c.loop-i.i c.args.left.now c.args.right.now one other c.if-left-i.true) ∙ c.loop-i.invariant

pub returns : goal.returns
returns c =
    c.cmp-2.ensures ∙ sym (at_end c.loop-i.i c.args.left.now c.args.right.now (omega (arith, c.loop-i-test.false, c.loop-i.auto.i-end, c.min-common.ensures))) ∙ c.loop-i.invariant
