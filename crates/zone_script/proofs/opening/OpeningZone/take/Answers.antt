use Rattle.std.proofs.Common.{◌≡◌, IfSome, Err, sym, subst}
use Rattle.zone_script.specs.Causes.{line_in}
use Rattle.zone_script.specs.Keeping.{take_record}
use Rattle.zone_script.proofs.Refused.{line_refused}
use Rattle.zone_script.proofs.opening.OpeningZone.take.Goals as goal

pub returns-in-Err-clause-bad : goal.returns-in-Err-clause-bad
returns-in-Err-clause-bad c =
    let refused = line_refused c.args.self.now c.args.number c.args.found c.in-Err.refused c.in-Err.ensures.refused in
    subst (λ why. IfSome (line_in why) (λ n. take_record c.args.self.now c.args.number c.args.found ≡ Err n)) (sym c.cause_of-cause.ensures) refused
