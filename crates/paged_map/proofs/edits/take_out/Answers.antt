use Rattle.std.proofs.Common.{◌≡◌, ℕ, ◌<◌, length, remove, slice_set, sym, ap, ◌∙◌, subst}
use Rattle.std.specs.Arc.{arc_value}
use Rattle.paged_map.specs.Pages.{values_in, page_at, joined, IsFit, AreFit}
use Rattle.paged_map.proofs.Places.{fit_at}
use Rattle.paged_map.proofs.PageEdits.{gone_joined, fit_remove, within_pages, read_in, take_joined, fit_without, edit_ok, edit_err, edit_fit}
use Rattle.paged_map.proofs.Shared.{map_remove}
use Rattle.paged_map.proofs.edits.take_out.Goals as goal

pub returns-clause-ok : goal.returns-clause-ok
returns-clause-ok g c =
    let ps = values_in c.args.pages.now.items in
    let q : ℕ = c.args.spot.page in
    let h : q < length ps = within_pages c.args.pages.now q c.requires.page in
    let read : page_at ps q ≡ arc_value c.index_mut.result.now = read_in c.args.pages.now.items q c.index_mut.result.now h c.index_mut.ensures.value in
    edit_ok c.args.pages.now.items q c.index_mut.result.now c.take_from.new.page c.take_from.result h read (remove (arc_value c.index_mut.result.now) c.args.spot.at) _ c.take_from.ensures.ok (ap (λ p. joined (slice_set ps q (remove p c.args.spot.at))) (sym read) ∙ take_joined ps c.args.spot h)

pub returns-clause-err : goal.returns-clause-err
returns-clause-err g c =
    let ps = values_in c.args.pages.now.items in
    let q : ℕ = c.args.spot.page in
    let h : q < length ps = within_pages c.args.pages.now q c.requires.page in
    let read : page_at ps q ≡ arc_value c.index_mut.result.now = read_in c.args.pages.now.items q c.index_mut.result.now h c.index_mut.ensures.value in
    edit_err c.args.pages.now.items q c.index_mut.result.now c.take_from.new.page c.take_from.result h read c.take_from.ensures.err

pub returns-clause-fit : goal.returns-clause-fit
returns-clause-fit g c =
    let ps = values_in c.args.pages.now.items in
    let q : ℕ = c.args.spot.page in
    let h : q < length ps = within_pages c.args.pages.now q c.requires.page in
    let read : page_at ps q ≡ arc_value c.index_mut.result.now = read_in c.args.pages.now.items q c.index_mut.result.now h c.index_mut.ensures.value in
    edit_fit c.args.pages.now.items q c.index_mut.result.now c.take_from.new.page c.take_from.result h read (remove (arc_value c.index_mut.result.now) c.args.spot.at) c.requires.fit (subst (λ p. IsFit (remove p c.args.spot.at)) read (fit_without (page_at ps q) c.args.spot.at c.requires.at (λ e. c.if-page_len-eq1.false (c.page_len.ensures ∙ ap (λ l. length (page_at (values_in l) q)) c.deref.ensures.value ∙ e)) (fit_at ps q c.requires.fit h))) c.take_from.ensures.ok c.take_from.ensures.err

pub returns-then-page_len-eq1-clause-ok : goal.returns-then-page_len-eq1-clause-ok
returns-then-page_len-eq1-clause-ok g c =
    let ps = values_in c.args.pages.now.items in
    ap joined (ap values_in c.remove.ensures.items ∙ map_remove arc_value c.args.pages.now.items c.args.spot.page) ∙ gone_joined ps c.args.spot (sym (c.page_len.ensures ∙ ap (λ l. length (page_at (values_in l) c.args.spot.page)) c.deref.ensures.value) ∙ c.if-page_len-eq1.true) c.requires.at

pub returns-then-page_len-eq1-clause-fit : goal.returns-then-page_len-eq1-clause-fit
returns-then-page_len-eq1-clause-fit g c =
    subst AreFit (sym (ap values_in c.remove.ensures.items ∙ map_remove arc_value c.args.pages.now.items c.args.spot.page)) (fit_remove (values_in c.args.pages.now.items) c.args.spot.page c.requires.fit)
