use Rattle.std.proofs.Common.{◌≡◌, ◌++◌, Some, None, sym, ap, ◌∙◌, subst}
use Rattle.zone_model.specs.Walk.{shown_owner}
use Rattle.zone_model.specs.Offer.{side_records}
use Rattle.xfr_replies.specs.Places.{Begins, sides_text}
use Rattle.xfr_replies.specs.declared.place.Place.{Place}
use Rattle.xfr_replies.specs.declared.place.Part.TheVariants.{SideSets}
use Rattle.xfr_replies.proofs.Placing.{side_at_key, no_key}
use Rattle.xfr_replies.proofs.of_difference.plain_place.Goals as goal

pub returns-in-Some : goal.returns-in-Some
returns-in-Some c ds more rest at h =
    let v = c.args.zone.now.version in
    let key = c.in-Some.key.now in
    let owner = c.shown_owner-owner.ensures ∙ ap (shown_owner v) c.owner.ensures in
    let made : c.first_of.result ≡ record { part = SideSets c.args.side; owner = shown_owner v key.0; rtype = key.1; index = 0; set = None } =
    c.first_of.ensures ∙ (λ i. record { part = SideSets c.args.side; owner = owner i; rtype = c.rtype.ensures i; index = 0; set = None }) in
    subst (λ (p : Place). Begins v ds (side_records v rest ++ sides_text v more) (Some p)) (sym made)
    (side_at_key v ds c.args.side c.args.sets.now rest more key at (c.in-Some.ensures rest h))

pub returns-in-None : goal.returns-in-None
returns-in-None c ds more rest at h = no_key c.args.zone.now.version c.args.sets.now rest (c.in-None.ensures rest h)
