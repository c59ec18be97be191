use Rattle.std.proofs.Common.{map}
use Rattle.std.specs.Arc.{arc_value}
use Rattle.xfr_replies.specs.Sides.{sides_from}
use Rattle.xfr_replies.proofs.Placing.{changes_at_soa, changes_without_soa}
use Rattle.xfr_replies.proofs.steps.changes_place.Goals as goal

pub returns-in-Some : goal.returns-in-Some
returns-in-Some c = changes_at_soa c.args.zone.now.version (map arc_value c.args.diffs.now) c.in-Some.place c.in-Some.ensures

pub returns-in-None : goal.returns-in-None
returns-in-None c =
    let ds = map arc_value c.args.diffs.now in
    changes_without_soa c.args.zone.now.version ds (sides_from ds c.first.result) c.sides_place.result c.in-None.ensures (c.first.ensures ds) c.sides_place.ensures
