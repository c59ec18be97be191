use Rattle.std.proofs.Common.{◌≡◌, ◌++◌, Some, None, sym, ◌∙◌, subst}
use Rattle.dns_numbers.specs.Codes.{type_soa}
use Rattle.xfr_replies.specs.Sides.{side_text}
use Rattle.xfr_replies.specs.Places.{Begins, sides_text}
use Rattle.xfr_replies.specs.declared.place.Place.{Place}
use Rattle.xfr_replies.specs.declared.place.Part.TheVariants.{SideSoas}
use Rattle.xfr_replies.proofs.Placing.{side_at_soas, side_without_soas}
use Rattle.xfr_replies.proofs.Reading.{not_true, not_false}
use Rattle.xfr_replies.proofs.of_difference.side_place.Goals as goal

pub returns-then-has_soas : goal.returns-then-has_soas
returns-then-has_soas c ds more at =
    let v = c.args.zone.now.version in
    let apex = c.to_key_name-apex.ensures.value ∙ c.apex_name.ensures in
    let made : c.first_of.result ≡ record { part = SideSoas c.args.side; owner = v.apex; rtype = type_soa; index = 0; set = None } =
    c.first_of.ensures ∙ (λ i. record { part = SideSoas c.args.side; owner = apex i; rtype = type_soa; index = 0; set = None }) in
    subst (λ (p : Place). Begins v ds (side_text v c.args.sets.now ++ sides_text v more) (Some p)) (sym made)
    (side_at_soas v ds c.args.side c.args.sets.now more at (not_true _ (sym c.has_soas.ensures ∙ c.if-has_soas.true)))

pub returns : goal.returns
returns c ds more at =
    let v = c.args.zone.now.version in
    side_without_soas v ds c.args.sets.now (sides_text v more) c.plain_place.result (not_false _ (sym c.has_soas.ensures ∙ c.if-has_soas.false))
    (c.plain_place.ensures ds more c.args.sets.now at c.first_key.ensures)
