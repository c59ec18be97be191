use Rattle.std.proofs.Common.{◌≡◌}
use Rattle.dns_wire.specs.Parse.{after_items, question_at}
use Rattle.dns_wire.proofs.sections.after_questions.Given as goal

abbrev pub invariant-loop-left : goal.invariant-loop-left
invariant-loop-left l = after_items (question_at l.message) l.left l.place ≡ after_items (question_at l.message) l.count l.pos

abbrev pub decreases-loop-left : goal.decreases-loop-left
decreases-loop-left l = l.left
