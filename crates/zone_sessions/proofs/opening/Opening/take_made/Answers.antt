use Rattle.zone_sessions.proofs.Unopened.{taken, not_made, was_none, rest_shown, none_made}
use Rattle.zone_sessions.proofs.opening.Opening.take_made.Goals as goal

-- The version, if it has been made, and none is left.
pub returns-clause-some : goal.returns-clause-some
returns-clause-some c = taken c.self.inside.apex c.self.inside.class c.self.inside.made c.take.result c.take.ensures.value c.self.view_is

pub returns-clause-none : goal.returns-clause-none
returns-clause-none c = not_made c.self.inside.apex c.self.inside.class c.self.inside.made c.take.result c.take.new.self c.take.ensures.value c.take.ensures.after c.self.view_is

pub returns-clause-was : goal.returns-clause-was
returns-clause-was c = was_none c.self.inside.apex c.self.inside.class c.self.inside.made c.take.result c.take.ensures.value c.self.invariant c.self.view_is

pub returns-clause-rest : goal.returns-clause-rest
returns-clause-rest c = rest_shown c.self.inside.apex c.self.inside.class c.self.inside.made c.take.new.self c.take.ensures.after c.self.invariant c.self.view_is

pub invariant_of-self : goal.invariant_of-self
invariant_of-self c = none_made c.self.inside.apex c.self.inside.class c.take.new.self c.take.ensures.after
