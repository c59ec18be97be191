use Rattle.std.proofs.Common.{◌≡◌, length, map}
use Rattle.std.specs.Arc.{arc_value}
use Rattle.zone_model.specs.Offer.{from_serial}
use Rattle.xfr_providers.proofs.kept_diffs.starting_at.Given as goal

-- the differences from the serial on are those of what is left
abbrev pub invariant-diffs : goal.invariant-diffs
invariant-diffs l = from_serial l.serial (map arc_value l.rest) ≡ from_serial l.fn.serial (map arc_value l.fn.diffs)

abbrev pub decreases-diffs : goal.decreases-diffs
decreases-diffs l = length l.rest
