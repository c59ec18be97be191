use Rattle.std.proofs.Common.{◌≡◌, ℕ, List, true, is_le}
use Rattle.std.specs.List.{list_any, AllByRecursion}
use Rattle.std.specs.List.Sorted.{IsStrictlySortedBy}
use Rattle.std.specs.Map.{keys_of}
use Rattle.paged_map.specs.Octets.{octets_cmp}
use Rattle.zone_versions.specs.Keyed.{holds_outside}
use Rattle.zone_versions.proofs.node_map.any_held_outside.Given as goal

abbrev pub invariant-entries : goal.invariant-entries
invariant-entries l = record {
  step : (goal.iterator-entries).can_next l.entries × (goal.iterator-entries).is_finite l.entries;
  left : list_any (holds_outside l.name l.other) l.entries ≡ list_any (holds_outside l.name l.other) l.pages;
  sorted : IsStrictlySortedBy octets_cmp (keys_of l.entries);
  from : AllByRecursion (λ (k : List ℕ). is_le (octets_cmp l.name k) ≡ true) (keys_of l.entries);
}
