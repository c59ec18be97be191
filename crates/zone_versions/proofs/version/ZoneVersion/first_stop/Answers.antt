use Rattle.std.proofs.Common.{Some, [], ◌∷◌, ap, ◌∙◌}
use Rattle.zone_versions.proofs.Stops.{first_shown}
use Rattle.zone_versions.proofs.version.ZoneVersion.first_stop.Goals as goal

-- The first set is the first stop.
pub returns-in-Some : goal.returns-in-Some
returns-in-Some c =
    ap Some c.stop.ensures ∙ first_shown c.args.self.now c.sets.result (c.in-Some.found ∷ c.next.new.self) c.sets.ensures.is c.in-Some.ensures.steps

pub returns-in-None : goal.returns-in-None
returns-in-None c = first_shown c.args.self.now c.sets.result [] c.sets.ensures.is c.in-None.ensures.steps.0
