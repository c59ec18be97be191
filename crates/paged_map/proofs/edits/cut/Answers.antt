use Rattle.std.proofs.Common.{◌≡◌, ℕ, ◌<◌, ◌≤◌, ◌++◌, length, take, drop, remove, slice_set, sym, ap, ◌∙◌, subst, arith}
use Rattle.std.specs.Arc.{arc_value}
use Rattle.std.proofs.lemmas.List.{map-set, nil_from_length}
use Rattle.paged_map.specs.Pages.{values_in, page_at, joined, IsFit, AreFit}
use Rattle.paged_map.proofs.Shared.{map_remove}
use Rattle.paged_map.proofs.Places.{fit_at}
use Rattle.paged_map.proofs.PageEdits.{within_pages, read_in, cut_none, cut_gone, cut_joined, fit_part, fit_remove, fit_set}
use Rattle.paged_map.proofs.edits.cut.Goals as goal

pub returns-then-from-to-clause-ok : goal.returns-then-from-to-clause-ok
returns-then-from-to-clause-ok g c = cut_none (values_in c.args.pages.now.items) c.args.page c.args.from c.args.to (within_pages c.args.pages.now c.args.page c.requires.page) c.if-from-to.true

pub returns-then-len-eq0-clause-ok : goal.returns-then-len-eq0-clause-ok
returns-then-len-eq0-clause-ok g c =
    let ps = values_in c.args.pages.now.items in
    let q : ℕ = c.args.page in
    let h : q < length ps = within_pages c.args.pages.now q c.requires.page in
    let read : page_at ps q ≡ arc_value c.index.result.now = read_in c.args.pages.now.items q c.index.result.now h c.index.ensures in
    let is : arc_value c.in_ok-part.part ≡ take c.args.from (page_at ps q) ++ drop c.args.to (page_at ps q) = c.in_ok-part.ensures ∙ ap (λ p. take c.args.from p ++ drop c.args.to p) (c.deref.ensures ∙ sym read) in
    ap joined (ap values_in c.remove.ensures.items ∙ map_remove arc_value c.args.pages.now.items q)
    ∙ cut_gone ps q c.args.from c.args.to (sym is ∙ nil_from_length (arc_value c.in_ok-part.part) (sym (c.len.ensures ∙ ap length c.deref-2.ensures) ∙ c.if-len-eq0.true))

pub returns-then-len-eq0-clause-fit : goal.returns-then-len-eq0-clause-fit
returns-then-len-eq0-clause-fit g c =
    subst AreFit (sym (ap values_in c.remove.ensures.items ∙ map_remove arc_value c.args.pages.now.items c.args.page)) (fit_remove (values_in c.args.pages.now.items) c.args.page c.requires.fit)

pub returns-clause-ok : goal.returns-clause-ok
returns-clause-ok g c =
    let ps = values_in c.args.pages.now.items in
    let q : ℕ = c.args.page in
    let h : q < length ps = within_pages c.args.pages.now q c.requires.page in
    let read : page_at ps q ≡ arc_value c.index.result.now = read_in c.args.pages.now.items q c.index.result.now h c.index.ensures in
    let is : arc_value c.in_ok-part.part ≡ take c.args.from (page_at ps q) ++ drop c.args.to (page_at ps q) = c.in_ok-part.ensures ∙ ap (λ p. take c.args.from p ++ drop c.args.to p) (c.deref.ensures ∙ sym read) in
    ap joined (map-set arc_value c.args.pages.now.items q c.in_ok-part.part) ∙ ap (λ p. joined (slice_set ps q p)) is ∙ cut_joined ps q c.args.from c.args.to h

pub returns-clause-fit : goal.returns-clause-fit
returns-clause-fit g c =
    let ps = values_in c.args.pages.now.items in
    let q : ℕ = c.args.page in
    let h : q < length ps = within_pages c.args.pages.now q c.requires.page in
    let read : page_at ps q ≡ arc_value c.index.result.now = read_in c.args.pages.now.items q c.index.result.now h c.index.ensures in
    let is : arc_value c.in_ok-part.part ≡ take c.args.from (page_at ps q) ++ drop c.args.to (page_at ps q) = c.in_ok-part.ensures ∙ ap (λ p. take c.args.from p ++ drop c.args.to p) (c.deref.ensures ∙ sym read) in
    let fit : IsFit (page_at ps q) = fit_at ps q c.requires.fit h in
    let some : 0 < length (arc_value c.in_ok-part.part) = omega (arith, c.if-len-eq0.false, c.len.ensures, ap length c.deref-2.ensures) in
    subst AreFit (sym (map-set arc_value c.args.pages.now.items q c.in_ok-part.part))
    (fit_set ps q (arc_value c.in_ok-part.part) c.requires.fit (subst IsFit (sym is) (fit_part (page_at ps q) c.args.from c.args.to c.requires.order c.requires.to fit.1 (subst (λ p. 0 < length p) is some))))
