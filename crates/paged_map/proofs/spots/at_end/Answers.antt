use Rattle.std.proofs.Common.{◌≡◌, ◌≤◌, true, false, length, sym, subst, arith}
use Rattle.paged_map.specs.Octets.{passes, reaches}
use Rattle.paged_map.specs.Pages.{values_in, page_at}
use Rattle.paged_map.proofs.MarkOrder.{reaches_passed}
use Rattle.paged_map.proofs.Places.{fit_at}
use Rattle.paged_map.proofs.Ends.{passed_to_last, passed_all, ahead_last}
use Rattle.paged_map.proofs.spots.at_end.Goals as goal

pub overflow_add-result : goal.overflow_add-result
overflow_add-result g c =
    let few : length (page_at (values_in c.args.pages.now) c.in_ok-last.last.page) ≤ 256 = (fit_at (values_in c.args.pages.now) c.in_ok-last.last.page c.requires.fit (omega (arith, c.in_ok-last.ensures.page))).1 in
    record { fits = omega (arith, few, c.in_ok-last.ensures.at) }

pub returns-in-Equal-clause-passed : goal.returns-in-Equal-clause-passed
returns-in-Equal-clause-passed g c =
    let at = c.beside.ensures.before c.in-Equal.is in
    passed_to_last c.args.mark (values_in c.args.pages.now) c.in_ok-last.last.page c.in_ok-last.ensures.page c.in_ok-last.last.at c.in_ok-entry.entry.now c.in_ok-last.ensures.at (sym c.in_ok-entry.ensures) c.requires.ascend
    (subst (λ k. reaches c.args.mark k ≡ true) c.key.ensures at.1)

pub returns-in-Equal-clause-ahead : goal.returns-in-Equal-clause-ahead
returns-in-Equal-clause-ahead g c =
    let at = c.beside.ensures.before c.in-Equal.is in
    ahead_last c.args.mark (values_in c.args.pages.now) c.in_ok-last.last.page c.in_ok-last.ensures.page c.in_ok-last.last.at c.in_ok-entry.entry.now c.in_ok-last.ensures.at (sym c.in_ok-entry.ensures)
    (subst (λ k. passes c.args.mark k ≡ false) c.key.ensures at.0)

pub returns-in-Greater-clause-passed : goal.returns-in-Greater-clause-passed
returns-in-Greater-clause-passed g c =
    let past : passes c.args.mark c.in_ok-entry.entry.now.0 ≡ true = subst (λ k. passes c.args.mark k ≡ true) c.key.ensures (c.beside.ensures.past c.in-Greater.is) in
    passed_all c.args.mark (values_in c.args.pages.now) c.in_ok-last.last.page c.in_ok-last.ensures.page c.in_ok-last.last.at c.in_ok-entry.entry.now c.in_ok-last.ensures.at (sym c.in_ok-entry.ensures) c.requires.ascend
    (reaches_passed c.args.mark c.in_ok-entry.entry.now.0 past) past
