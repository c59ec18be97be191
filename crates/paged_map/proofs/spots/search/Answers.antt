use Rattle.std.proofs.Common.{◌≡◌, ℕ, suc, ◌-◌, ◌<◌, ◌≤◌, true, false, take, drop, length, sym, ap, ◌∙◌, subst, arith}
use Rattle.paged_map.specs.Octets.{reaches}
use Rattle.paged_map.specs.Pages.{Ascend, Passed, Ahead, values_in, first_key, page_at}
use Rattle.paged_map.proofs.Places.{ahead_at_start, unreached_at_start, unreached_after, passed_before, ahead_after, page_ascends, page_read_in}
use Rattle.paged_map.proofs.spots.search.Goals as goal

pub returns-then-count-eq0-clause-ahead : goal.returns-then-count-eq0-clause-ahead
returns-then-count-eq0-clause-ahead g c =
    ahead_at_start c.args.mark (values_in c.args.pages.now) c.requires.fit c.requires.ascend (λ some.
    subst (λ n. reaches c.args.mark (first_key (page_at (values_in c.args.pages.now) n)) ≡ false) c.if-count-eq0.true
    (c.count_reaching-count.ensures.next (subst (λ n. n < length (values_in c.args.pages.now)) (sym c.if-count-eq0.true) some)))

pub returns-then-count-eq0-clause-unreached : goal.returns-then-count-eq0-clause-unreached
returns-then-count-eq0-clause-unreached g c =
    unreached_at_start c.args.mark (values_in c.args.pages.now) c.requires.fit c.requires.ascend (λ some.
    subst (λ n. reaches c.args.mark (first_key (page_at (values_in c.args.pages.now) n)) ≡ false) c.if-count-eq0.true
    (c.count_reaching-count.ensures.next (subst (λ n. n < length (values_in c.args.pages.now)) (sym c.if-count-eq0.true) some)))

pub count_before-requires : goal.count_before-requires
count_before-requires g c =
    let q : ℕ = c.count_reaching-count.result - 1 in
    let in' : q < length (values_in c.args.pages.now) = omega (arith, c.if-count-eq0.false, c.count_reaching-count.ensures.bound) in
    subst Ascend (page_read_in c.args.pages.now q c.index-pages-page.result in' c.index-pages-page.is ∙ sym c.deref.ensures) (page_ascends (values_in c.args.pages.now) q c.requires.ascend in')

pub returns-clause-passed : goal.returns-clause-passed
returns-clause-passed g c =
    let q : ℕ = c.count_reaching-count.result - 1 in
    let some : 0 < c.count_reaching-count.result = omega (arith, c.if-count-eq0.false) in
    let in' : q < length (values_in c.args.pages.now) = omega (arith, some, c.count_reaching-count.ensures.bound) in
    passed_before c.args.mark (values_in c.args.pages.now) q c.count_before.result c.requires.fit c.requires.ascend in' (c.count_reaching-count.ensures.last some)
    (subst (λ p. Passed c.args.mark (take c.count_before.result p)) (c.deref.ensures ∙ sym (page_read_in c.args.pages.now q c.index-pages-page.result in' c.index-pages-page.is)) c.count_before.ensures.passed)

pub returns-clause-ahead : goal.returns-clause-ahead
returns-clause-ahead g c =
    let q : ℕ = c.count_reaching-count.result - 1 in
    let some : 0 < c.count_reaching-count.result = omega (arith, c.if-count-eq0.false) in
    let in' : q < length (values_in c.args.pages.now) = omega (arith, some, c.count_reaching-count.ensures.bound) in
    let next : c.count_reaching-count.result ≡ suc q = omega (arith, some) in
    ahead_after c.args.mark (values_in c.args.pages.now) q c.count_before.result c.requires.fit c.requires.ascend in'
    (subst (λ n. n < length (values_in c.args.pages.now) → reaches c.args.mark (first_key (page_at (values_in c.args.pages.now) n)) ≡ false) next c.count_reaching-count.ensures.next)
    (subst (λ p. Ahead c.args.mark (drop c.count_before.result p)) (c.deref.ensures ∙ sym (page_read_in c.args.pages.now q c.index-pages-page.result in' c.index-pages-page.is)) c.count_before.ensures.ahead)

pub returns-clause-unreached : goal.returns-clause-unreached
returns-clause-unreached g c =
    let q : ℕ = c.count_reaching-count.result - 1 in
    let some : 0 < c.count_reaching-count.result = omega (arith, c.if-count-eq0.false) in
    let in' : q < length (values_in c.args.pages.now) = omega (arith, some, c.count_reaching-count.ensures.bound) in
    let next : c.count_reaching-count.result ≡ suc q = omega (arith, some) in
    unreached_after c.args.mark (values_in c.args.pages.now) q c.requires.fit c.requires.ascend in'
    (subst (λ n. n < length (values_in c.args.pages.now) → reaches c.args.mark (first_key (page_at (values_in c.args.pages.now) n)) ≡ false) next c.count_reaching-count.ensures.next)
