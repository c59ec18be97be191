use Rattle.std.proofs.Common.{◌≡◌, ℕ, ◌-◌, ◌<◌, ◌≤◌, true, false, length, sym, subst, rules, of_calls, arith}
use Rattle.std.specs.List.Sorted.{IsStrictlySortedBy, IsPartitionPoint}
use Rattle.std.specs.Arc.{arc_value}
use Rattle.std.proofs.lemmas.Fn.{always_returns_same}
use Rattle.paged_map.specs.Octets.{octets_cmp, reaches}
use Rattle.paged_map.specs.Pages.{values_in, first_key}
use Rattle.paged_map.proofs.MarkOrder.{reaches_falls}
use Rattle.paged_map.proofs.Orders.{parted_by, map_map}
use Rattle.paged_map.proofs.Places.{heads_ascend, head_in, reached_by, values_length}
use Rattle.paged_map.proofs.spots.count_reaching.Goals as goal
use Rattle.paged_map.proofs.spots.count_reaching.Goals.{After-partition_point}

point : (g : _) (c : After-partition_point g) → IsPartitionPoint (λ p. reaches c.args.mark (head_in p) ≡ true) (λ p. reaches c.args.mark (head_in p) ≡ false) c.args.pages.now c.partition_point.result
point g c = c.partition_point.ensures.partitioned (λ p. reaches c.args.mark (head_in p)) (always_returns_same _ _ _ (λ a r f k. search (rules, of_calls)))
    (parted_by (reaches c.args.mark) (reaches_falls c.args.mark) head_in c.args.pages.now
    (subst (IsStrictlySortedBy octets_cmp) (map_map arc_value first_key c.args.pages.now) (heads_ascend (values_in c.args.pages.now) c.requires.fit c.requires.ascend)))

pub returns-clause-last : goal.returns-clause-last
returns-clause-last g c some =
    let bound : c.partition_point.result ≤ length c.args.pages.now = c.partition_point.ensures.bound in
    reached_by c.args.mark true c.args.pages.now 0 c.partition_point.result (c.partition_point.result - 1) (point g c).0 (omega arith) (omega (arith, some)) (omega (arith, some, bound))

pub returns-clause-next : goal.returns-clause-next
returns-clause-next g c more =
    let h : c.partition_point.result < length c.args.pages.now = subst (λ n. c.partition_point.result < n) (values_length c.args.pages.now) more in
    reached_by c.args.mark false c.args.pages.now c.partition_point.result (length c.args.pages.now) c.partition_point.result (point g c).1 (omega arith) h h
