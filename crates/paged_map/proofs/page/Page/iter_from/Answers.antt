use Rattle.std.proofs.Common.{◌≡◌, drop, sym, ap, ◌∙◌}
use Rattle.std.specs.Arc.{arc_value}
use Rattle.std.proofs.lemmas.List.{drop-map, take_rest}
use Rattle.paged_map.specs.Pages.{values_in}
use Rattle.paged_map.proofs.page.Page.iter_from.Goals as goal

pub returns : goal.returns
returns g c =
    ap values_in (c.iter.ensures.rest ∙ take_rest c.deref.result.now c.args.at ∙ ap (drop c.args.at) c.deref.ensures.value) ∙ sym (drop-map arc_value c.args.at c.self.inside.entries.items) ∙ ap (drop c.args.at) c.self.view_is
