use Rattle.std.proofs.Common.{◌≡◌, slice_set, ap, ◌∙◌}
use Rattle.std.specs.Arc.{arc_value}
use Rattle.std.proofs.lemmas.List.{map-set}
use Rattle.paged_map.proofs.page.Page.replace.Goals as goal

pub returns : goal.returns
returns g c = map-set arc_value c.self.inside.entries.items c.args.at c.args.entry ∙ ap (λ l. slice_set l c.args.at (arc_value c.args.entry)) c.self.view_is
