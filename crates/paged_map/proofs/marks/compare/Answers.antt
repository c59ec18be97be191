use Rattle.std.proofs.Common.{◌∙◌, sym, arith}
use Rattle.paged_map.proofs.Words.{other_words, same_words}
use Rattle.paged_map.proofs.marks.compare.Goals as goal

pub returns-then-is_ne : goal.returns-then-is_ne
returns-then-is_ne c =
    other_words c.loop-one.ones.now c.loop-one.others.now _ _ _ _ c.compare_words-order.result c.in-Some.ensures.cases c.in-Some-split_first_chunk.ensures.cases c.compare_words-order.ensures
    (sym c.is_ne.ensures ∙ c.if-is_ne.true) ∙ c.loop-one.invariant

pub loop-one-smaller : goal.loop-one-smaller
loop-one-smaller c = omega (arith, c.in-Some.ensures.cases.2)

pub loop-one-preserved : goal.loop-one-preserved
loop-one-preserved c =
    same_words c.loop-one.ones.now c.loop-one.others.now _ _ _ _ c.compare_words-order.result c.in-Some.ensures.cases c.in-Some-split_first_chunk.ensures.cases c.compare_words-order.ensures
    (sym c.is_ne.ensures ∙ c.if-is_ne.false) ∙ c.loop-one.invariant
