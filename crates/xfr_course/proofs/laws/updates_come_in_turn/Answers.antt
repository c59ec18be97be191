use Rattle.xfr_course.proofs.Between.{between_messages, updates_in_turn}
use Rattle.xfr_course.proofs.laws.updates_come_in_turn.Goals as goal

pub returns-clause-between : goal.returns-clause-between
returns-clause-between c = between_messages

pub returns-clause-turn : goal.returns-clause-turn
returns-clause-turn c = updates_in_turn
