use Rattle.std.proofs.Common.{◌≡◌, ℕ, ◌<◌, length, slice_set, sym, ap, ◌∙◌, subst}
use Rattle.std.specs.Arc.{arc_value}
use Rattle.paged_map.specs.Pages.{values_in, page_at, joined, IsFit}
use Rattle.paged_map.proofs.Places.{fit_at}
use Rattle.paged_map.proofs.PageEdits.{within_pages, read_in, replace_joined, fit_replace, edit_ok, edit_err, edit_fit}
use Rattle.paged_map.proofs.edits.replace.Goals as goal

pub returns-clause-ok : goal.returns-clause-ok
returns-clause-ok g c =
    let ps = values_in c.args.pages.now.items in
    let q : ℕ = c.args.spot.page in
    let h : q < length ps = within_pages c.args.pages.now q c.requires.page in
    let read : page_at ps q ≡ arc_value c.index_mut.result.now = read_in c.args.pages.now.items q c.index_mut.result.now h c.index_mut.ensures.value in
    edit_ok c.args.pages.now.items q c.index_mut.result.now c.replace_in.new.page c.replace_in.result h read (slice_set (arc_value c.index_mut.result.now) c.args.spot.at (arc_value c.args.entry)) _ c.replace_in.ensures.ok (ap (λ p. joined (slice_set ps q (slice_set p c.args.spot.at (arc_value c.args.entry)))) (sym read) ∙ replace_joined ps c.args.spot (arc_value c.args.entry) h c.requires.at)

pub returns-clause-err : goal.returns-clause-err
returns-clause-err g c =
    let ps = values_in c.args.pages.now.items in
    let q : ℕ = c.args.spot.page in
    let h : q < length ps = within_pages c.args.pages.now q c.requires.page in
    let read : page_at ps q ≡ arc_value c.index_mut.result.now = read_in c.args.pages.now.items q c.index_mut.result.now h c.index_mut.ensures.value in
    edit_err c.args.pages.now.items q c.index_mut.result.now c.replace_in.new.page c.replace_in.result h read c.replace_in.ensures.err

pub returns-clause-fit : goal.returns-clause-fit
returns-clause-fit g c =
    let ps = values_in c.args.pages.now.items in
    let q : ℕ = c.args.spot.page in
    let h : q < length ps = within_pages c.args.pages.now q c.requires.page in
    let read : page_at ps q ≡ arc_value c.index_mut.result.now = read_in c.args.pages.now.items q c.index_mut.result.now h c.index_mut.ensures.value in
    edit_fit c.args.pages.now.items q c.index_mut.result.now c.replace_in.new.page c.replace_in.result h read (slice_set (arc_value c.index_mut.result.now) c.args.spot.at (arc_value c.args.entry)) c.requires.fit (subst (λ p. IsFit (slice_set p c.args.spot.at (arc_value c.args.entry))) read (fit_replace (page_at ps q) c.args.spot.at (arc_value c.args.entry) (fit_at ps q c.requires.fit h))) c.replace_in.ensures.ok c.replace_in.ensures.err
