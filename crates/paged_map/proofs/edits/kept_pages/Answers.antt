use Rattle.std.proofs.Common.{◌≡◌, ℕ, suc, ◌+◌, ◌-◌, ◌<◌, ◌++◌, List, length, take, drop, sym, ap, ◌∙◌, subst, add-one, append_assoc}
use Rattle.std.specs.Arc.{arc_value}
use Rattle.std.proofs.lemmas.List.{take-map, drop-map, take_rest, length-map}
use Rattle.paged_map.specs.Pages.{values_in, page_at, joined, before, after, IsFit, AreFit}
use Rattle.paged_map.proofs.Shared.{appended_values}
use Rattle.paged_map.proofs.Orders.{all_joined}
use Rattle.paged_map.proofs.Places.{fit_take, fit_drop}
use Rattle.paged_map.proofs.PageEdits.{read_in, front_only, joined_parts}
use Rattle.paged_map.proofs.edits.kept_pages.Goals as goal

pub keep_part-requires-clause-others : goal.keep_part-requires-clause-others
keep_part-requires-clause-others g c =
    let pages = c.args.pages.now in
    let ps = values_in pages in
    let first : values_in c.extend_with_clones.new.self.items ≡ take c.args.from.page ps =
    appended_values c.new-kept.result.items c.extend_with_clones.new.self.items (take c.args.from.page pages) c.in_ok-extend_with_clones.ensures.items
    ∙ ap (λ l. values_in l ++ values_in (take c.args.from.page pages)) c.new-kept.ensures.items ∙ sym (take-map arc_value c.args.from.page pages) in
    subst AreFit (sym first) (fit_take c.args.from.page ps c.requires.fit)

pub returns-clause-ok : goal.returns-clause-ok
returns-clause-ok g c =
    let pages = c.args.pages.now in
    let ps = values_in pages in
    let first : values_in c.extend_with_clones.new.self.items ≡ take c.args.from.page ps =
    appended_values c.new-kept.result.items c.extend_with_clones.new.self.items (take c.args.from.page pages) c.in_ok-extend_with_clones.ensures.items
    ∙ ap (λ l. values_in l ++ values_in (take c.args.from.page pages)) c.new-kept.ensures.items ∙ sym (take-map arc_value c.args.from.page pages) in
    let tail = take (length pages - (c.args.to.page + 1)) (drop (c.args.to.page + 1) pages) in
    let last : values_in tail ≡ drop (suc c.args.to.page) ps =
    ap values_in (take_rest pages (c.args.to.page + 1)) ∙ sym (drop-map arc_value (c.args.to.page + 1) pages) ∙ ap (λ n. drop n ps) (add-one c.args.to.page) in
    let p : page_at ps c.args.from.page ≡ arc_value c.index-pages-from.result = read_in pages c.args.from.page c.index-pages-from.result (subst (λ n. c.args.from.page < n) (sym (length-map pages arc_value)) c.requires.page) c.index-pages-from.is in
    let r : page_at ps c.args.to.page ≡ arc_value c.index-pages-to.result = read_in pages c.args.to.page c.index-pages-to.result (subst (λ n. c.args.to.page < n) (sym (length-map pages arc_value)) c.requires.to_page) c.index-pages-to.is in
    let front : joined (values_in c.keep_part.new.kept.items) ≡ before ps c.args.from =
    c.in_ok-keep_part.ensures.ok ∙ ap (λ l. joined l ++ (take c.args.from.at (arc_value c.index-pages-from.result) ++ drop c.len.result (arc_value c.index-pages-from.result))) first
    ∙ ap (λ n. joined (take c.args.from.page ps) ++ (take c.args.from.at (arc_value c.index-pages-from.result) ++ drop n (arc_value c.index-pages-from.result))) (c.len.ensures ∙ ap length c.deref.ensures)
    ∙ ap (λ l. joined (take c.args.from.page ps) ++ l) (front_only (arc_value c.index-pages-from.result) c.args.from.at) ∙ ap (λ l. joined (take c.args.from.page ps) ++ take c.args.from.at l) (sym p) in
    let back : joined (values_in c.keep_part-2.new.kept.items) ≡ before ps c.args.from ++ drop c.args.to.at (page_at ps c.args.to.page) =
    c.in_ok-keep_part-2.ensures.ok ∙ ap (λ l. l ++ drop c.args.to.at (arc_value c.index-pages-to.result)) front ∙ ap (λ l. before ps c.args.from ++ drop c.args.to.at l) (sym r) in
    ap joined (appended_values c.keep_part-2.new.kept.items c.extend_with_clones-2.new.self.items tail c.in_ok-extend_with_clones-2.ensures.items) ∙ joined_parts (values_in c.keep_part-2.new.kept.items) (values_in tail)
    ∙ ap (λ l. l ++ joined (values_in tail)) back ∙ ap (λ l. (before ps c.args.from ++ drop c.args.to.at (page_at ps c.args.to.page)) ++ joined l) last
    ∙ append_assoc (before ps c.args.from) (drop c.args.to.at (page_at ps c.args.to.page)) (joined (drop (suc c.args.to.page) ps))

pub returns-clause-fit : goal.returns-clause-fit
returns-clause-fit g c =
    let pages = c.args.pages.now in
    let ps = values_in pages in
    let tail = take (length pages - (c.args.to.page + 1)) (drop (c.args.to.page + 1) pages) in
    let last : values_in tail ≡ drop (suc c.args.to.page) ps =
    ap values_in (take_rest pages (c.args.to.page + 1)) ∙ sym (drop-map arc_value (c.args.to.page + 1) pages) ∙ ap (λ n. drop n ps) (add-one c.args.to.page) in
    subst AreFit (sym (appended_values c.keep_part-2.new.kept.items c.extend_with_clones-2.new.self.items tail c.in_ok-extend_with_clones-2.ensures.items))
    (all_joined IsFit (values_in c.keep_part-2.new.kept.items) (values_in tail) c.keep_part-2.ensures.fit (subst AreFit (sym last) (fit_drop (suc c.args.to.page) ps c.requires.fit)))
