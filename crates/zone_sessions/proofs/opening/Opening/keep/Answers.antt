use Rattle.std.proofs.Common.{sym, ◌∙◌}
use Rattle.zone_sessions.proofs.Unopened.{apex_shown, class_shown}
use Rattle.zone_sessions.proofs.opening.Opening.keep.Goals as goal

-- The version is of the apex and class.
pub invariant_of-self : goal.invariant_of-self
invariant_of-self c = (
  c.requires.apex ∙ sym (apex_shown c.self.inside.apex c.self.inside.class c.self.inside.made c.self.invariant c.self.view_is),
  c.requires.class ∙ sym (class_shown c.self.inside.apex c.self.inside.class c.self.inside.made c.self.invariant c.self.view_is),
)
