use Rattle.std.proofs.Common.{◌≡◌, insert, ap, ◌∙◌}
use Rattle.std.specs.Arc.{arc_value}
use Rattle.paged_map.specs.Pages.{values_in}
use Rattle.paged_map.proofs.Shared.{map_insert}
use Rattle.paged_map.proofs.page.Page.insert.Goals as goal

pub returns-clause-ok : goal.returns-clause-ok
returns-clause-ok g c =
    ap values_in c.in_ok-insert.ensures.items ∙ map_insert arc_value c.self.inside.entries.items c.args.at c.args.entry ∙ ap (λ l. insert l c.args.at (arc_value c.args.entry)) c.self.view_is
