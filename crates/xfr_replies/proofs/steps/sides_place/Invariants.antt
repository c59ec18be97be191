use Rattle.std.proofs.Common.{◌≡◌, length, map}
use Rattle.std.specs.Arc.{arc_value}
use Rattle.xfr_replies.specs.Sides.{sides_from}
use Rattle.xfr_replies.specs.Places.{sides_text}
use Rattle.xfr_replies.proofs.steps.sides_place.Given as goal

-- The sides that were passed over have no record.
abbrev pub invariant-sides : goal.invariant-sides
invariant-sides l =
    sides_text l.zone.version (sides_from (map arc_value l.diffs) l.side) ≡ sides_text l.zone.version (sides_from (map arc_value l.diffs) l.initial.side)

abbrev pub decreases-sides : goal.decreases-sides
decreases-sides l = length (sides_from (map arc_value l.diffs) l.side)
