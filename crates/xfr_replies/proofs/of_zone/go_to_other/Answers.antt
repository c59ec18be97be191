use Rattle.std.proofs.Common.{◌++◌, Some, refl, sym, ◌∙◌, subst}
use Rattle.zone_model.specs.Answer.{apex_soa_record}
use Rattle.xfr_replies.specs.Sides.{middle_of}
use Rattle.xfr_replies.specs.Places.{Begins}
use Rattle.xfr_replies.specs.Steps.{SkipsApexSoa}
use Rattle.xfr_replies.specs.declared.place.Place.{Place}
use Rattle.xfr_replies.proofs.Placing.{zone_at_stop}
use Rattle.xfr_replies.proofs.of_zone.go_to_other.Goals as goal

pub returns-clause-moves : goal.returns-clause-moves
returns-clause-moves c = λ ds rest heads.
    let v = c.args.zone.now.version in
    let skips : SkipsApexSoa v rest (Some c.args.stop.now) = record { left = rest; heads = heads; other = sym c.is_soa_stop.ensures ∙ c.if-is_soa_stop.false; same = refl } in
    subst (λ (p : Place). Begins v ds (middle_of v rest ++ apex_soa_record v) (Some p)) (sym c.go_to.ensures.is)
    (zone_at_stop v ds rest c.args.stop.now c.go_to.new.place.set skips c.go_to.ensures.kept)
