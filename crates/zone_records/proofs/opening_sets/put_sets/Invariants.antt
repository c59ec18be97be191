use Rattle.std.proofs.Common.{◌≡◌, map, IsTrue}
use Rattle.std.specs.List.{list_all}
use Rattle.zone_model.specs.Edits.{with_sets}
use Rattle.zone_values.specs.SetEdits.{put_all}
use Rattle.zone_versions.specs.Stops.{entry_told}
use Rattle.zone_records.specs.OpeningSets.{is_put_at}
use Rattle.zone_records.proofs.opening_sets.put_sets.Given as goal

-- With the sets that are left, it is all of them; each of those may be put.
abbrev pub invariant-loop-found : goal.invariant-loop-found
invariant-loop-found l =
    (with_sets l.tree (put_all l.tree.sets (map entry_told l.found-iterator)) ≡ with_sets l.initial.tree (put_all l.initial.tree.sets (map entry_told l.initial.found-iterator)))
    × IsTrue (list_all (is_put_at l.tree.apex) l.found-iterator)
