use Rattle.std.proofs.Common.{◌≡◌, drop}
use Rattle.zone_handles.specs.ZoneEdits.{reached}
use Rattle.zone_handles.proofs.zone_edits.go_down.Given as goal

-- The labels that are left lead from here where all of them led from the start.
abbrev pub invariant-loop-label : goal.invariant-loop-label
invariant-loop-label l =
    (reached l.initial.node.name l.labels ≡ reached l.node.name (drop l.label-index l.labels)) × (l.node ≡ record l.initial.node { name = l.node.name })
