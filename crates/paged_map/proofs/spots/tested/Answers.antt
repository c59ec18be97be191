use Rattle.std.proofs.Common.{◌≡◌, Some, option_map, slice_get, true, false, sym, ap, ◌∙◌, subst}
use Rattle.paged_map.specs.Octets.{passes, reaches}
use Rattle.paged_map.specs.Pages.{values_in, page_at}
use Rattle.paged_map.proofs.Guesses.{within_here, ahead_here, unreached_here, passed_here, passed_after_one}
use Rattle.paged_map.proofs.spots.tested.Goals as goal

pub returns-in-Equal-clause-within : goal.returns-in-Equal-clause-within
returns-in-Equal-clause-within g c = within_here c.args.mark (values_in c.args.pages.now) c.args.spot c.in_ok-entry.entry.now (sym c.in_ok-entry.ensures)

pub returns-in-Equal-clause-passed : goal.returns-in-Equal-clause-passed
returns-in-Equal-clause-passed g c =
    passed_here c.args.mark (values_in c.args.pages.now) c.args.spot c.in_ok-entry.entry.now (sym c.in_ok-entry.ensures) c.requires.ascend
    (subst (λ k. reaches c.args.mark k ≡ true) c.key.ensures (c.beside.ensures.before c.in-Equal.is).1)

pub returns-in-Equal-clause-ahead : goal.returns-in-Equal-clause-ahead
returns-in-Equal-clause-ahead g c =
    ahead_here c.args.mark (values_in c.args.pages.now) c.args.spot c.in_ok-entry.entry.now (sym c.in_ok-entry.ensures) c.requires.ascend
    (subst (λ k. passes c.args.mark k ≡ false) c.key.ensures (c.beside.ensures.before c.in-Equal.is).0)

pub returns-in-Equal-clause-unreached : goal.returns-in-Equal-clause-unreached
returns-in-Equal-clause-unreached g c =
    unreached_here c.args.mark (values_in c.args.pages.now) c.args.spot c.in_ok-entry.entry.now (sym c.in_ok-entry.ensures) c.requires.ascend
    (subst (λ k. passes c.args.mark k ≡ false) c.key.ensures (c.beside.ensures.before c.in-Equal.is).0)

pub returns-then-passes_last_before-clause-within : goal.returns-then-passes_last_before-clause-within
returns-then-passes_last_before-clause-within g c = within_here c.args.mark (values_in c.args.pages.now) c.args.spot c.in_ok-entry.entry.now (sym c.in_ok-entry.ensures)

pub returns-then-passes_last_before-clause-passed : goal.returns-then-passes_last_before-clause-passed
returns-then-passes_last_before-clause-passed g c =
    passed_after_one c.args.mark (values_in c.args.pages.now) c.args.spot.page c.args.spot.at c.requires.ascend (c.passes_last_before.ensures c.if-passes_last_before.true)

pub returns-then-passes_last_before-clause-ahead : goal.returns-then-passes_last_before-clause-ahead
returns-then-passes_last_before-clause-ahead g c =
    ahead_here c.args.mark (values_in c.args.pages.now) c.args.spot c.in_ok-entry.entry.now (sym c.in_ok-entry.ensures) c.requires.ascend
    (subst (λ k. passes c.args.mark k ≡ false) c.key.ensures (c.beside.ensures.ahead c.in-Less.is))

pub returns-then-passes_last_before-clause-unreached : goal.returns-then-passes_last_before-clause-unreached
returns-then-passes_last_before-clause-unreached g c =
    unreached_here c.args.mark (values_in c.args.pages.now) c.args.spot c.in_ok-entry.entry.now (sym c.in_ok-entry.ensures) c.requires.ascend
    (subst (λ k. passes c.args.mark k ≡ false) c.key.ensures (c.beside.ensures.ahead c.in-Less.is))
