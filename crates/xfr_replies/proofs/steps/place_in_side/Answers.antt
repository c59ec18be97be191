use Rattle.std.proofs.Common.{List, map, drop, Some, refl}
use Rattle.std.specs.Arc.{arc_value}
use Rattle.zone_model.specs.Version.{Sets}
use Rattle.zone_model.specs.Offer.{side_records}
use Rattle.xfr_replies.specs.Sides.{sides_from}
use Rattle.xfr_replies.proofs.Placing.{first_of_sides, no_sides, rest_at_place, rest_empty, rest_missing}
use Rattle.xfr_replies.proofs.steps.place_in_side.Goals as goal

pub returns-in_default : goal.returns-in_default
returns-in_default c =
    let v = c.args.zone.now.version in
    let ds = map arc_value c.args.diffs.now in
    let sides : List Sets = sides_from ds c.args.side in
    rest_missing v ds (λ (l : Sets). side_records v l) sides c.last_place.result refl (no_sides sides c.in_default.ensures.value) (c.last_place.ensures ds)

pub returns-in-Some-plain_place : goal.returns-in-Some-plain_place
returns-in-Some-plain_place c =
    let v = c.args.zone.now.version in
    let ds = map arc_value c.args.diffs.now in
    let sides : List Sets = sides_from ds c.args.side in
    let at = first_of_sides sides c.in-Some.sets.now c.in-Some.ensures.value in
    rest_at_place v ds (λ (l : Sets). side_records v l) sides c.in-Some.sets.now (Some c.in-Some-plain_place.place) at
    (c.in-Some-plain_place.ensures ds (drop 1 sides) c.in-Some.sets.now at c.first_key.ensures)

pub returns-in-None : goal.returns-in-None
returns-in-None c =
    let v = c.args.zone.now.version in
    let ds = map arc_value c.args.diffs.now in
    let sides : List Sets = sides_from ds c.args.side in
    let at = first_of_sides sides c.in-Some.sets.now c.in-Some.ensures.value in
    rest_empty v ds (λ (l : Sets). side_records v l) sides (sides_from ds c.next.result) c.in-Some.sets.now c.sides_place.result at
    (c.in-None.ensures ds (drop 1 sides) c.in-Some.sets.now at c.first_key.ensures) (c.next.ensures ds) c.sides_place.ensures
