use Rattle.std.proofs.Common.{◌≡◌, ◌++◌, Some, sym, ◌∙◌, subst}
use Rattle.zone_model.specs.Answer.{apex_soa_record}
use Rattle.xfr_replies.specs.Sides.{middle_of}
use Rattle.xfr_replies.specs.Places.{Begins}
use Rattle.xfr_replies.specs.declared.place.Place.{Place}
use Rattle.xfr_replies.specs.declared.place.Part.TheVariants.{Zone}
use Rattle.xfr_replies.proofs.Placing.{zone_at_stop, zone_at_last}
use Rattle.xfr_replies.proofs.of_zone.zone_place.Goals as goal

pub returns-in-Some : goal.returns-in-Some
returns-in-Some c rest h ds =
    let v = c.args.zone.now.version in
    let stop = c.in-Some.stop in
    let owner = c.duplicate.ensures ∙ c.owner.ensures in
    let set = c.kept_set.result in
    let made : ◌≡◌ {A = Place} (record { part = Zone; owner = c.duplicate.result; rtype = c.rtype.result; index = 0; set = set })
    (record { part = Zone; owner = stop.owner; rtype = stop.rtype; index = 0; set = set }) =
    λ i. record { part = Zone; owner = owner i; rtype = c.rtype.ensures i; index = 0; set = set } in
    subst (λ (p : Place). Begins v ds (middle_of v rest ++ apex_soa_record v) (Some p)) (sym made) (zone_at_stop v ds rest stop set (c.in-Some.ensures rest h) c.kept_set.ensures)

pub returns-in-None : goal.returns-in-None
returns-in-None c rest h ds = zone_at_last c.args.zone.now.version ds rest c.last_place.result (c.in-None.ensures rest h) (c.last_place.ensures ds)
