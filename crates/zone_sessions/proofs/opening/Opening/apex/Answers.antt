use Rattle.zone_sessions.proofs.Unopened.{apex_shown}
use Rattle.zone_sessions.proofs.opening.Opening.apex.Goals as goal

pub returns : goal.returns
returns c = apex_shown c.self.inside.apex c.self.inside.class c.self.inside.made c.self.invariant c.self.view_is
