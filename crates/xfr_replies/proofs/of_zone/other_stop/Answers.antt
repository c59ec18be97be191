use Rattle.std.proofs.Common.{◌<◌, Option, sym, ◌∙◌, subst}
use Rattle.zone_model.specs.Walk.{Stop}
use Rattle.xfr_replies.proofs.Skipping.{PassedAt, left_after, fewer_after, passed_at_more, passed_apex_soa, passed_at_all}
use Rattle.xfr_replies.proofs.Reading.{heads_next}
use Rattle.xfr_replies.proofs.of_zone.other_stop.Goals as goal

pub stops-preserved : goal.stops-preserved
stops-preserved c rest h =
    let v = c.args.zone.now.version in
    let soa = sym c.is_soa_stop.ensures ∙ c.if-not-is_soa_stop.false in
    passed_at_more v rest c.in-Some.stop c.stop_behind-next.result soa (heads_next v c.in-Some.stop c.owner.result.now c.rtype.result c.stop_behind-next.result c.owner.ensures c.rtype.ensures c.stop_behind-next.ensures)
    (subst (PassedAt v rest) c.in-Some.is (c.stops.invariant rest h))

pub stops-smaller : goal.stops-smaller
stops-smaller c =
    let v = c.args.zone.now.version in
    subst (λ (o : Option Stop). left_after v c.stop_behind-next.result < left_after v o) (sym c.in-Some.is)
    (fewer_after v c.in-Some.stop c.stop_behind-next.result (heads_next v c.in-Some.stop c.owner.result.now c.rtype.result c.stop_behind-next.result c.owner.ensures c.rtype.ensures c.stop_behind-next.ensures))

pub returns-then-not-is_soa_stop : goal.returns-then-not-is_soa_stop
returns-then-not-is_soa_stop c rest h =
    let v = c.args.zone.now.version in
    passed_apex_soa v rest c.in-Some.stop (sym c.is_soa_stop.ensures ∙ c.if-not-is_soa_stop.true) (subst (PassedAt v rest) c.in-Some.is (c.stops.invariant rest h))

pub returns : goal.returns
returns c rest h =
    let v = c.args.zone.now.version in
    passed_at_all v rest (subst (PassedAt v rest) c.in_default.is (c.stops.invariant rest h))
