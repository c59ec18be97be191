use Rattle.std.proofs.Common.{◌≡◌, ℕ, suc, ◌+◌, ◌<◌, length, insert, slice_set, sym, ap, ◌∙◌, subst, add-one}
use Rattle.paged_map.specs.Pages.{values_in}
use Rattle.paged_map.proofs.PageEdits.{two_values}
use Rattle.paged_map.proofs.edits.put_two.Goals as goal

pub returns-clause-ok : goal.returns-clause-ok
returns-clause-ok g c =
    ap (λ l. values_in (slice_set l c.args.page c.args.low)) (c.in_ok-insert.ensures.items ∙ ap (λ n. insert c.args.pages.now.items n c.args.high) (add-one c.args.page))
    ∙ two_values c.args.pages.now.items c.args.page c.args.low c.args.high (subst (λ n. c.args.page < n) c.args.pages.now.ok.0 c.requires)
