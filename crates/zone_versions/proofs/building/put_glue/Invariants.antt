use Rattle.std.proofs.Common.{◌≡◌, take, fold}
use Rattle.zone_model.specs.Edits.{add_glue}
use Rattle.zone_versions.proofs.building.put_glue.Given as goal

-- The addresses so far are put.
abbrev pub invariant-loop-added : goal.invariant-loop-added
invariant-loop-added l = l.version ≡ fold add_glue l.initial.version (take l.added-index l.glue)
