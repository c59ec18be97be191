use Rattle.std.proofs.Common.{Some, sym, subst}
use Rattle.std.specs.Bool.{OnTrue}
use Rattle.xfr_replies.specs.Places.{Begins, text_behind}
use Rattle.xfr_replies.specs.declared.place.Part.{Part}
use Rattle.xfr_replies.proofs.steps.goes_to_next_set.Goals as goal

pub returns-in-Zone-clause-moves : goal.returns-in-Zone-clause-moves
returns-in-Zone-clause-moves c = λ ds.
    let v = c.args.zone.now.version in
    let p = c.args.place.now in
    subst (λ (part : Part). OnTrue c.next_in_zone.result (Begins v ds (text_behind v ds part p.owner p.rtype) (Some c.next_in_zone.new.place))) (sym c.in-Zone.is) (c.next_in_zone.ensures.moves ds)
