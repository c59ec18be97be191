use Rattle.std.proofs.Common.{map, sym, subst}
use Rattle.std.specs.Arc.{arc_value}
use Rattle.dns_name.specs.Names.{fold}
use Rattle.xfr_replies.specs.Sides.{behind}
use Rattle.xfr_replies.specs.Places.{Begins, text_behind}
use Rattle.xfr_replies.specs.declared.place.Part.{Part}
use Rattle.xfr_replies.proofs.steps.place_behind.Goals as goal

pub returns-in-BeforeZone : goal.returns-in-BeforeZone
returns-in-BeforeZone c =
    let v = c.args.zone.now.version in
    let ds = map arc_value c.args.diffs.now in
    let p = c.args.place.now in
    subst (λ (part : Part). Begins v ds (text_behind v ds part p.owner p.rtype) c.zone_place.result) (sym c.in-BeforeZone.is) (c.zone_place.ensures v.sets c.first_stop.ensures ds)

pub returns-in-Zone : goal.returns-in-Zone
returns-in-Zone c =
    let v = c.args.zone.now.version in
    let ds = map arc_value c.args.diffs.now in
    let p = c.args.place.now in
    subst (λ (part : Part). Begins v ds (text_behind v ds part p.owner p.rtype) c.zone_place-in-Zone.result) (sym c.in-Zone.is) (c.zone_place-in-Zone.ensures (behind (fold p.owner, p.rtype) v.sets) c.stop_behind.ensures ds)
