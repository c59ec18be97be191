use Rattle.std.proofs.Common.{map}
use Rattle.std.specs.Arc.{arc_value}
use Rattle.xfr_replies.proofs.Placing.{next_behind_place}
use Rattle.xfr_replies.proofs.steps.move_on.Goals as goal

pub returns : goal.returns
returns c =
    next_behind_place c.args.zone.now.version (map arc_value c.args.diffs.now) c.args.place.now c.in-Some.here c.goes_near.new.place c.place_behind.result c.in-Some.is c.requires
    c.if-goes_near.ensures.stays c.if-goes_near.ensures.last c.place_behind.ensures
