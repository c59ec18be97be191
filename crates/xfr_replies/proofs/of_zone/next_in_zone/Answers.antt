use Rattle.std.proofs.Common.{subst}
use Rattle.dns_name.specs.Names.{fold}
use Rattle.xfr_replies.specs.Sides.{behind}
use Rattle.xfr_replies.specs.Steps.{HeadsAt}
use Rattle.xfr_replies.proofs.of_zone.next_in_zone.Goals as goal

pub returns-in-Some-clause-moves : goal.returns-in-Some-clause-moves
returns-in-Some-clause-moves c = λ ds.
    let v = c.args.zone.now.version in
    let rest = behind (fold c.args.place.now.owner, c.args.place.now.rtype) v.sets in
    c.go_to_other.ensures.moves ds rest (subst (HeadsAt v rest) c.in-Some.is c.stop_behind-found.ensures)
