use Rattle.std.proofs.Common.{◌≡◌, sym, ◌∙◌}
use Rattle.paged_map.specs.Pages.{values_in}
use Rattle.paged_map.proofs.Guesses.{has_here}
use Rattle.paged_map.proofs.spots.is_found_at.Goals as goal

pub returns : goal.returns
returns g c t = has_here c.args.key (values_in c.args.pages.now) c.args.spot c.requires (sym c.has_key_at.ensures ∙ t)
