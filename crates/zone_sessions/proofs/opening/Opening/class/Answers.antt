use Rattle.zone_sessions.proofs.Unopened.{class_shown}
use Rattle.zone_sessions.proofs.opening.Opening.class.Goals as goal

pub returns : goal.returns
returns c = class_shown c.self.inside.apex c.self.inside.class c.self.inside.made c.self.invariant c.self.view_is
