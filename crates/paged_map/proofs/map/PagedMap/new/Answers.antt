use Rattle.std.proofs.Common.{sym, subst}
use Rattle.paged_map.specs.Pages.{IsSound}
use Rattle.paged_map.proofs.Orders.{sorted_none}
use Rattle.paged_map.proofs.map.PagedMap.new.Goals as goal

pub invariant_of-result : goal.invariant_of-result
invariant_of-result g c = subst (λ l. IsSound l) (sym c.new.ensures.items) (tt, sorted_none)
