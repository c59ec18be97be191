use Rattle.std.proofs.Common.{◌≡◌, ℕ, suc, ◌+◌, Some, None, option_map, slice_get, sym, ap, ◌∙◌, add-one}
use Rattle.paged_map.specs.Pages.{values_in, page_at}
use Rattle.paged_map.proofs.Places.{first_in_next}
use Rattle.paged_map.proofs.spots.entry_from.Goals as goal

pub returns-in-None : goal.returns-in-None
returns-in-None g c =
    c.entry_at-in-None.ensures ∙ ap (λ n. slice_get (page_at (values_in c.args.pages.now) n) 0) (add-one c.args.spot.page)
    ∙ sym (first_in_next (values_in c.args.pages.now) c.args.spot c.requires.fit (sym c.entry_at.ensures ∙ ap (option_map (λ e. e.now)) c.in-None.is))
