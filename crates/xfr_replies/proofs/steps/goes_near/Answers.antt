use Rattle.std.proofs.Common.{Some, map, subst, List, arith}
use Rattle.std.specs.Arc.{arc_value}
use Rattle.std.specs.Bool.{OnTrue}
use Rattle.dns_name.specs.Records.{Record}
use Rattle.xfr_replies.specs.Places.{Begins}
use Rattle.xfr_replies.proofs.Placing.{behind_last, next_in_set}
use Rattle.xfr_replies.proofs.steps.goes_near.Goals as goal

pub returns-then-index-count-clause-moves : goal.returns-then-index-count-clause-moves
returns-then-index-count-clause-moves c =
    next_in_set c.args.zone.now.version (map arc_value c.args.diffs.now) c.args.place.now c.requires (omega (arith, c.record_count-count.ensures, c.if-index-count.true))

pub returns-clause-moves : goal.returns-clause-moves
returns-clause-moves c =
    let v = c.args.zone.now.version in
    let ds = map arc_value c.args.diffs.now in
    subst (λ (text : List Record). OnTrue c.goes_to_next_set.result (Begins v ds text (Some c.goes_to_next_set.new.place)))
    (behind_last v ds c.args.place.now c.requires (omega (arith, c.record_count-count.ensures, c.if-index-count.false)))
    (c.goes_to_next_set.ensures.moves ds)
