use Rattle.std.proofs.Common.{refl}
use Rattle.xfr_course.proofs.OnLiterals.{course_on_literals}
use Rattle.xfr_course.proofs.transfer_examples.course_row.Goals as goal

pub returns-clause-updated : goal.returns-clause-updated
unfolding course_on_literals
returns-clause-updated c = refl

pub returns-clause-made : goal.returns-clause-made
unfolding course_on_literals
returns-clause-made c = refl

pub returns-clause-spoilt : goal.returns-clause-spoilt
unfolding course_on_literals
returns-clause-spoilt c = refl

pub returns-clause-late : goal.returns-clause-late
unfolding course_on_literals
returns-clause-late c = refl

pub returns-clause-unsigned : goal.returns-clause-unsigned
unfolding course_on_literals
returns-clause-unsigned c = refl

pub returns-clause-short : goal.returns-clause-short
unfolding course_on_literals
returns-clause-short c = refl

pub returns-clause-unfinished : goal.returns-clause-unfinished
unfolding course_on_literals
returns-clause-unfinished c = refl

pub returns-clause-failed : goal.returns-clause-failed
unfolding course_on_literals
returns-clause-failed c = refl

pub returns-clause-forwarded : goal.returns-clause-forwarded
unfolding course_on_literals
returns-clause-forwarded c = refl

pub returns-clause-in_two : goal.returns-clause-in_two
unfolding course_on_literals
returns-clause-in_two c = refl

pub returns-clause-unsigned_end : goal.returns-clause-unsigned_end
unfolding course_on_literals
returns-clause-unsigned_end c = refl

pub returns-clause-unsigned_tail : goal.returns-clause-unsigned_tail
unfolding course_on_literals
returns-clause-unsigned_tail c = refl
