use Rattle.std.proofs.Common.{◌≡◌, ℕ, ◌<◌, ◌++◌, length, insert, sym, ap, ◌∙◌}
use Rattle.std.specs.Arc.{arc_value}
use Rattle.std.proofs.lemmas.Result.{on_ok_weaker}
use Rattle.paged_map.specs.Pages.{values_in, page_at, joined}
use Rattle.paged_map.proofs.PageEdits.{within_pages, read_in, two_joined}
use Rattle.paged_map.proofs.edits.split.Goals as goal

pub returns-clause-ok : goal.returns-clause-ok
returns-clause-ok g c =
    let ps = values_in c.args.pages.now.items in
    let e = arc_value c.args.entry in
    let h : c.args.spot.page < length ps = within_pages c.args.pages.now c.args.spot.page c.requires.page in
    let read : page_at ps c.args.spot.page ≡ arc_value c.index.result.now = read_in c.args.pages.now.items c.args.spot.page c.index.result.now h c.index.ensures in
    on_ok_weaker c.put_two.result (λ made. ap joined made ∙ two_joined ps c.args.spot e (arc_value c.in_ok-low.low) (arc_value c.in_ok-low.high)
    (c.in_ok-low.ensures.all ∙ ap (λ p. insert p c.args.spot.at e) (c.deref.ensures ∙ sym read))) c.put_two.ensures.ok
