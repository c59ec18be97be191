use Rattle.std.proofs.Common.{rules, of_calls, nat_cmp, List, ℕ, subst}
use Rattle.std.specs.List.Sorted.{IsStableByKey}
use Rattle.std.proofs.lemmas.Fn.{always_returns_same}
use Rattle.zone_generated.specs.Ranks.{host_rank}
use Rattle.zone_generated.proofs.draws.draws_by_owner.Goals as goal

-- Each call of the closure gives the rank.
pub returns-clause-sorted : goal.returns-clause-sorted
returns-clause-sorted c = c.in_ok-sort_by_cached_key.ensures.sorted (host_rank c.args.count) (always_returns_same _ _ _ (λ a r f k. search (rules, of_calls)))

pub returns-clause-stable : goal.returns-clause-stable
returns-clause-stable c =
    subst (λ (xs : List ℕ). IsStableByKey (host_rank c.args.count) nat_cmp xs c.sort_by_cached_key.new.self.items) c.in_ok-drawn.ensures
    (c.in_ok-sort_by_cached_key.ensures.stable (host_rank c.args.count) (always_returns_same _ _ _ (λ a r f k. search (rules, of_calls))))
