use Rattle.std.proofs.Common.{◌≡◌, length}
use Rattle.std.specs.Vec.Iter.{into_iter_items, into_iter_len}
use Rattle.zone_primary_run.specs.ScriptPrimaries.{AreTold, pushed_all, versions_of}
use Rattle.zone_primary_run.proofs.making.push_all.Given as goal

-- With those that are left, they are all.
abbrev pub invariant-loop-handle : goal.invariant-loop-handle
invariant-loop-handle l =
    (pushed_all l.provider (versions_of (into_iter_items l.handle-iterator)) ≡ pushed_all l.initial.provider (versions_of (into_iter_items l.initial.handle-iterator)))
    × AreTold l.provider.kept (into_iter_items l.handle-iterator)
    × (into_iter_len l.handle-iterator ≡ length (into_iter_items l.handle-iterator))
    × (l.last.version ≡ l.provider.kept)
