use Rattle.std.proofs.Common.{◌≡◌, ℕ, suc, ◌+◌, ◌<◌, ◌++◌, length, drop, sym, ap, ◌∙◌, subst, add-one, arith}
use Rattle.std.specs.Arc.{arc_value}
use Rattle.std.specs.Slice.Iter.{iter_rest}
use Rattle.std.proofs.lemmas.List.{drop-map, take_rest, length-map}
use Rattle.paged_map.specs.Pages.{values_in, joined, page_at, AreFit}
use Rattle.paged_map.proofs.Places.{fit_drop}
use Rattle.paged_map.proofs.PageEdits.{read_in}
use Rattle.paged_map.proofs.iter.Entries.new.Goals as goal

pub invariant_of-result-2 : goal.invariant_of-result-2
invariant_of-result-2 g c =
    let pages = c.args.pages.now in
    let ps = values_in pages in
    let q : ℕ = c.args.spot.page in
    let last : values_in (iter_rest c.iter-2.result) ≡ drop (suc q) ps = ap values_in (c.iter-2.ensures.rest ∙ take_rest pages (q + 1)) ∙ sym (drop-map arc_value (q + 1) pages) ∙ ap (λ n. drop n ps) (add-one q) in
    subst AreFit (sym last) (fit_drop (suc q) ps c.requires.fit)

pub returns : goal.returns
returns g c =
    let pages = c.args.pages.now in
    let ps = values_in pages in
    let q : ℕ = c.args.spot.page in
    let last : values_in (iter_rest c.iter-2.result) ≡ drop (suc q) ps = ap values_in (c.iter-2.ensures.rest ∙ take_rest pages (q + 1)) ∙ sym (drop-map arc_value (q + 1) pages) ∙ ap (λ n. drop n ps) (add-one q) in
    let h : q < length ps = subst (λ n. q < n) (sym (length-map pages arc_value)) (omega (arith, c.if-spot-pages.false)) in
    let read : page_at ps q ≡ arc_value c.index-pages-spot.result = read_in pages q c.index-pages-spot.result h c.index-pages-spot.is in
    ap (λ l. l ++ joined (values_in (iter_rest c.iter-2.result))) (c.iter_from.ensures ∙ ap (drop c.args.spot.at) (c.deref.ensures ∙ sym read)) ∙ ap (λ l. drop c.args.spot.at (page_at ps q) ++ joined l) last
