use Rattle.std.proofs.Common.{◌≡◌, remove, ap, ◌∙◌}
use Rattle.std.specs.Arc.{arc_value}
use Rattle.paged_map.specs.Pages.{values_in}
use Rattle.paged_map.proofs.Shared.{map_remove}
use Rattle.paged_map.proofs.page.Page.remove.Goals as goal

pub returns : goal.returns
returns g c = ap values_in c.remove.ensures.items ∙ map_remove arc_value c.self.inside.entries.items c.args.at ∙ ap (λ l. remove l c.args.at) c.self.view_is
