use Rattle.std.proofs.Common.{length}
use Rattle.std.specs.List.{AllByRecursion}
use Rattle.zone_model.specs.Walk.{walk}
use Rattle.zone_sync.specs.Forms.{IsWritableStop}
use Rattle.zone_sync.proofs.forms.walk_has_forms.Given as goal

-- where the stops that are left have forms, all have
abbrev pub invariant-stops : goal.invariant-stops
invariant-stops l = AllByRecursion IsWritableStop l.stops → AllByRecursion IsWritableStop (walk l.fn.zone.version)

abbrev pub decreases-stops : goal.decreases-stops
decreases-stops l = length l.stops
