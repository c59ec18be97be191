use Rattle.std.proofs.Common.{sym, ap, ◌∙◌}
use Rattle.zone_versions.specs.Held.{typed_sets}
use Rattle.zone_versions.proofs.Row.{typed_back}
use Rattle.zone_versions.proofs.node.ZoneNode.sets.Goals as goal

pub returns-clause-is : goal.returns-clause-is
returns-clause-is c = c.deref.ensures.value ∙ sym (typed_back c.self.inside.sets.items) ∙ ap typed_sets c.self.view_is
