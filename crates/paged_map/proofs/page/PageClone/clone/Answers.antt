use Rattle.std.proofs.Common.{◌≡◌, ap, ◌∙◌}
use Rattle.paged_map.proofs.Shared.{cloned_values}
use Rattle.paged_map.proofs.page.PageClone.clone.Goals as goal

pub returns : goal.returns
returns g c = record { cases = cloned_values c.self.inside.entries.items c.in_ok-clone.field-0.items c.in_ok-clone.ensures.cases.0 ∙ c.self.view_is }
