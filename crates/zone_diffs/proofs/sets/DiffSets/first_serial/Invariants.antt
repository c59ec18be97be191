use Rattle.std.proofs.Common.{◌≡◌}
use Rattle.zone_diffs.proofs.Finding.{first_typed}
use Rattle.zone_diffs.proofs.sets.DiffSets.first_serial.Given as goal

-- The first SOA set of what is left is the first of all.
abbrev pub invariant-items : goal.invariant-items
invariant-items l =
    (goal.iterator-items).can_next l.items × (goal.iterator-items).is_finite l.items × (first_typed l.items ≡ first_typed l.initial.items)
