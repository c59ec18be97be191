use Rattle.std.proofs.Common.{List, map, drop, Some, sym, ap, ◌∙◌}
use Rattle.std.specs.Arc.{arc_value}
use Rattle.zone_model.specs.Answer.{apex_soa_record}
use Rattle.zone_model.specs.Version.{Sets}
use Rattle.xfr_replies.specs.Sides.{sides_from}
use Rattle.xfr_replies.specs.Places.{sides_text}
use Rattle.xfr_replies.proofs.Placing.{begins_as, first_of_sides, no_sides, sides_at_side, side_empty}
use Rattle.xfr_replies.proofs.steps.sides_place.Goals as goal

pub returns-in-Some-side_place : goal.returns-in-Some-side_place
returns-in-Some-side_place c =
    let v = c.args.zone.now.version in
    let ds = map arc_value c.args.diffs.now in
    let sides : List Sets = sides_from ds c.sides.side in
    let at = first_of_sides sides c.in-Some.sets.now c.in-Some.ensures.value in
    begins_as v ds (sides_text v sides) (sides_text v (sides_from ds c.args.first)) (Some c.in-Some-side_place.place) c.sides.invariant
    (sides_at_side v ds sides (drop 1 sides) c.in-Some.sets.now c.in-Some-side_place.place at (c.in-Some-side_place.ensures ds (drop 1 sides) at))

pub sides-preserved : goal.sides-preserved
sides-preserved c =
    let v = c.args.zone.now.version in
    let ds = map arc_value c.args.diffs.now in
    let sides : List Sets = sides_from ds c.sides.side in
    let at = first_of_sides sides c.in-Some.sets.now c.in-Some.ensures.value in
    ap (sides_text v) (c.next-side.ensures ds) ∙ side_empty v sides (drop 1 sides) c.in-Some.sets.now at (c.in_default-side_place.ensures ds (drop 1 sides) at) ∙ c.sides.invariant

pub returns : goal.returns
returns c =
    let v = c.args.zone.now.version in
    let ds = map arc_value c.args.diffs.now in
    let sides : List Sets = sides_from ds c.sides.side in
    begins_as v ds (apex_soa_record v) (sides_text v (sides_from ds c.args.first)) c.last_place.result
    (ap (sides_text v) (sym (no_sides sides c.in_default.ensures.value)) ∙ c.sides.invariant) (c.last_place.ensures ds)
