use Rattle.std.proofs.Common.{◌≡◌, [], subst, sym}
use Rattle.std.specs.List.{FoldsTo}
use Rattle.zone_handles.proofs.walking.walk.Goals as goal
use Rattle.zone_handles.proofs.walking.walk.Given as given

pub returns : goal.returns
returns g c =
    let end : c.loop-stop.stops ≡ [] = c.in_default.ensures.steps.0 in
    subst (λ all. FoldsTo (λ p x q. given.F-step g p x tt q) c.args.visit.now all c.loop-stop.visit) c.iter_rrsets-stops.ensures (c.loop-stop.invariant.1 c.loop-stop.visit (subst (λ rest. FoldsTo (λ p x q. given.F-step g p x tt q) c.loop-stop.visit rest c.loop-stop.visit) (sym end) (λ i. c.loop-stop.visit)))
