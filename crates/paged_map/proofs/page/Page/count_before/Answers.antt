use Rattle.std.proofs.Common.{◌≡◌, ℕ, List, map, true, false, take, drop, length, sym, ap, ◌∙◌, subst, rules, of_calls}
use Rattle.std.specs.List.{AllByRecursion}
use Rattle.std.specs.List.Sorted.{IsStrictlySortedBy, IsPartitionPoint}
use Rattle.std.specs.Arc.{arc_value}
use Rattle.std.proofs.lemmas.Fn.{always_returns_same}
use Rattle.paged_map.specs.Octets.{octets_cmp, passes}
use Rattle.paged_map.specs.Pages.{Ascend, Passed, Ahead, values_in}
use Rattle.paged_map.proofs.MarkOrder.{passes_falls}
use Rattle.paged_map.proofs.Orders.{parted_by, passed_part, ahead_part, keys_of_values, key_in}
use Rattle.paged_map.proofs.page.Page.count_before.Goals as goal

point : (g : _) (c : goal.After-partition_point g) → IsPartitionPoint (λ y. passes c.args.mark (key_in y) ≡ true) (λ y. passes c.args.mark (key_in y) ≡ false) c.deref.result.now c.partition_point.result
point g c = c.partition_point.ensures.partitioned (λ y. passes c.args.mark (key_in y)) (always_returns_same _ _ _ (λ a r f k. search (rules, of_calls)))
    (parted_by (passes c.args.mark) (passes_falls c.args.mark) key_in c.deref.result.now
    (subst (IsStrictlySortedBy octets_cmp) (keys_of_values c.deref.result.now) (subst Ascend (sym c.self.view_is ∙ ap values_in (sym c.deref.ensures.value)) c.requires)))

pub returns-clause-passed : goal.returns-clause-passed
returns-clause-passed g c =
    subst (λ es. Passed c.args.mark (take c.partition_point.result es)) (ap values_in c.deref.ensures.value ∙ c.self.view_is)
    (passed_part c.args.mark c.deref.result.now c.partition_point.result c.partition_point.ensures.bound (point g c).0)

pub returns-clause-ahead : goal.returns-clause-ahead
returns-clause-ahead g c =
    subst (λ es. Ahead c.args.mark (drop c.partition_point.result es)) (ap values_in c.deref.ensures.value ∙ c.self.view_is)
    (ahead_part c.args.mark c.deref.result.now c.partition_point.result (point g c).1)
